use Rattle.std.proofs.Common.{◌≡◌, ◌<◌, ◌≤◌, ◌^◌, ◌++◌, [], ◌∷◌, length, refl, sym, ap, ◌∙◌, rules, append_assoc}
use Rattle.std.proofs.lemmas.List.Elements.{All-nil, All-tail, All-append}
use Rattle.std.specs.List.{flat_map}
use Rattle.tx_cell.specs.Lines.{lines_left, text_lines}
use Rattle.tx_cell.specs.Strip.{line_cells}
use Rattle.tx_cell.specs.Wrap.{wrapped_line}
use Rattle.tx_cell.proofs.LineLemmas.{text_lines-short}
use Rattle.tx_cell.proofs.WrapLaws.{AreLinesOf-append}
use Rattle.tx_cell.proofs.wrapping.wrap.Goals as goal

pub loop-line-init : goal.loop-line-init
loop-line-init c =
    let left : lines_left c.into_iter-line-iterator.result ≡ text_lines c.args.text.now = search rules in
    rw (left, c.new-lines.ensures.items) (record {
      short = text_lines-short (2 ^ 32) c.args.text.now c.requires.short;
      lines = refl;
      fit = All-nil (λ line. length line ≤ c.args.width);
      whole = λ wide. ([], (refl, refl));
    })

pub loop-line-preserved : goal.loop-line-preserved
loop-line-preserved c =
    let line = c.in-Some.line.now in
    let left = lines_left c.next.new.self in
    let steps : lines_left c.loop-line.line-iterator ≡ line ∷ left = c.in-Some.ensures.steps in
    let added = c.in_ok-wrap_line.ensures.lines in
    rw added (record {
      short = All-tail (λ l. length l < 2 ^ 32) line left (rw steps at c.loop-line.invariant.short);
      lines = append_assoc c.loop-line.lines.items (wrapped_line c.args.width c.args.pen line) _
          ∙ ap (λ lines. c.loop-line.lines.items ++ flat_map (wrapped_line c.args.width c.args.pen) lines) (sym steps) ∙ c.loop-line.invariant.lines;
      fit = All-append (λ l. length l ≤ c.args.width) c.loop-line.lines.items _ c.loop-line.invariant.fit c.in_ok-wrap_line.ensures.fit;
      whole = λ wide.
          let before = c.loop-line.invariant.whole wide in (
            before.0 ++ line_cells line c.args.pen,
            (
              AreLinesOf-append before.0 _ c.loop-line.lines.items _ before.1.0 (c.in_ok-wrap_line.ensures.whole wide),
              append_assoc before.0 (line_cells line c.args.pen) _ ∙ ap (λ lines. before.0 ++ flat_map (λ l. line_cells l c.args.pen) lines) (sym steps) ∙ before.1.1,
            ),
          );
    })
