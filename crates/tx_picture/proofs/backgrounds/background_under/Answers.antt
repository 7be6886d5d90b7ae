use Rattle.std.proofs.Common.{◌≡◌, ℕ, ◌≤◌, Bool, List, Some, None, option_map, sym, ap, subst, ◌∙◌}
use Rattle.tx_cascade.proofs.lemmas.Parents.{some-same}
use Rattle.tx_geom.specs.declared.colours.Rgb.{Rgb}
use Rattle.tx_paint.specs.Pens.{background_over}
use Rattle.tx_picture.proofs.BackgroundLemmas.{parent-there, under-parent, under-top}
use Rattle.tx_picture.proofs.backgrounds.background_under.Goals as goal
use Rattle.tx_tree.specs.Rows.{count_of, parent_of}
use Rattle.tx_tree.specs.declared.row.Row.{Row}

pub returns-in_default : goal.returns-in_default
returns-in_default c =
    c.ground.ensures
    ∙ sym (under-top c.args.styles.now c.args.node.0
    (subst (λ (rows : List Row). None ≡ option_map (λ row. row.node) (parent_of c.args.node.0 rows)) (sym c.requires.same) (sym c.in_default.is ∙ c.parent.ensures)))

pub unreachable-requires-in_default-style : goal.unreachable-requires-in_default-style
unreachable-requires-in_default-style c =
    parent-there c.args.styles.now.rows (subst (λ (rows : List Row). (n : ℕ) → count_of n rows ≤ 1) (sym c.requires.same) c.root-root.ensures.known.once) c.args.node.0 c.in-Some.parent
    (subst (λ (rows : List Row). Some c.in-Some.parent ≡ option_map (λ row. row.node) (parent_of c.args.node.0 rows)) (sym c.requires.same) c.in-Some.ensures)
    c.in_default-style.ensures.style

pub returns : goal.returns
returns c =
    let parent : Some c.in-Some.parent ≡ option_map (λ row. row.node) (parent_of c.args.node.0 c.args.styles.now.rows) =
    subst (λ (rows : List Row). Some c.in-Some.parent ≡ option_map (λ row. row.node) (parent_of c.args.node.0 rows)) (sym c.requires.same) c.in-Some.ensures
    in
    let shown = c.args.styles.now in
    let is = under-parent shown (subst (λ (rows : List Row). (n : ℕ) → count_of n rows ≤ 1) (sym c.requires.same) c.root-root.ensures.known.once) c.args.node.0 c.in-Some.parent c.in-Some-style.style.now parent c.in-Some-style.ensures.exact in
    c.background_over.ensures
    ∙ ap (λ (dark : Bool). background_over dark c.in-Some-style.style.now c.in-Some-get.above.now) (sym c.requires.dark)
    ∙ ap (λ (under : Rgb). background_over shown.state.dark c.in-Some-style.style.now under) (some-same _ _ (c.in-Some-get.ensures ∙ c.requires.above c.in-Some.parent parent))
    ∙ sym is
