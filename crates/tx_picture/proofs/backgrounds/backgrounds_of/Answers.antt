use Rattle.std.proofs.Common.{◌≡◌, ℕ, ◌≤◌, ◌++◌, List, [], ◌∷◌, Option, sym, ap, subst, ◌∙◌, append_assoc, append-nil}
use Rattle.tx_geom.specs.declared.colours.Rgb.{Rgb}
use Rattle.tx_node_map.specs.Held.{held}
use Rattle.tx_picture.proofs.BackgroundLemmas.{above-held, next-held}
use Rattle.tx_picture.proofs.backgrounds.backgrounds_of.Goals as goal
use Rattle.tx_picture.specs.Backgrounds.{AreBackgrounds}
use Rattle.tx_tree.specs.Row.{plain}
use Rattle.tx_tree.specs.Rows.{count_of}
use Rattle.tx_tree.specs.declared.row.Row.{Row}

pub loop-row-init : goal.loop-row-init
loop-row-init c = record {
  done = [];
  whole = c.into_iter-row-iterator.ensures.into_iter_gives ∙ c.walk-row-items.ensures;
  backgrounds = λ n. ap (λ (f : ℕ → Option Rgb). f n) c.new-backgrounds.ensures;
}

pub background_under-under-requires-clause-above : goal.background_under-under-requires-clause-above
background_under-under-requires-clause-above c =
    above-held c.args.styles.now (subst (λ (rows : List Row). (n : ℕ) → count_of n rows ≤ 1) (sym c.requires.same) c.root-root.ensures.known.once) c.loop-row.invariant.done c.next.new.self
    (plain c.in-Some.row.now) (held c.loop-row.backgrounds)
    (ap (λ (rs : List Row). c.loop-row.invariant.done ++ rs) (sym c.in-Some.ensures.steps) ∙ c.loop-row.invariant.whole ∙ sym c.requires.same)
    c.loop-row.invariant.backgrounds

pub loop-row-preserved : goal.loop-row-preserved
loop-row-preserved c =
    let row = plain c.in-Some.row.now in
    let done = c.loop-row.invariant.done in
    let whole : done ++ (row ∷ c.next.new.self) ≡ c.args.tree.now.rows = ap (λ (rs : List Row). done ++ rs) (sym c.in-Some.ensures.steps) ∙ c.loop-row.invariant.whole in
    record {
      done = done ++ (row ∷ []);
      whole = append_assoc done (row ∷ []) c.next.new.self ∙ whole;
      backgrounds = next-held c.args.styles.now (subst (λ (rows : List Row). (n : ℕ) → count_of n rows ≤ 1) (sym c.requires.same) c.root-root.ensures.known.once) done c.next.new.self row
          (held c.loop-row.backgrounds) (held c.insert.new.self) c.background_under-under.result (whole ∙ sym c.requires.same) c.background_under-under.ensures c.in-Ok.ensures.ok
          c.loop-row.invariant.backgrounds;
    }

pub returns : goal.returns
returns c =
    let whole = ap (λ (rs : List Row). c.loop-row.invariant.done ++ rs) (sym c.in-None.ensures.steps.0) ∙ c.loop-row.invariant.whole in
    subst (λ (rows : List Row). AreBackgrounds c.args.styles.now rows (held c.loop-row.backgrounds)) (sym (append-nil c.loop-row.invariant.done) ∙ whole) c.loop-row.invariant.backgrounds
