use Rattle.std.proofs.Common.{◌≡◌, ◌++◌, List, [], ◌∷◌, length, Some, None, sym, ap, subst, ◌∙◌, append_assoc, length-append, arith}
use Rattle.std.proofs.lemmas.List.{length-map}
use Rattle.tx_cascade.specs.Styles.{all_styles}
use Rattle.tx_sizes.proofs.Numbers.{few_rows, found}
use Rattle.tx_sizes.proofs.Styling.{styled_next}
use Rattle.tx_sizes.specs.Forest.{Styled, styled}
use Rattle.tx_sizes.proofs.rows.styled_rows.Goals as goal
use Rattle.tx_tree.specs.Row.{number, plain}
use Rattle.tx_tree.specs.Rows.{row_at}
use Rattle.tx_tree.specs.declared.row.Row.{Row}

pub unreachable-requires : goal.unreachable-requires
unreachable-requires c =
    let row = plain c.in-Some.row.now in
    let rows = c.args.tree.now.rows in
    let done = c.loop-row.invariant.done in
    let whole : done ++ (row ∷ c.next.new.self) ≡ rows = ap (λ (rs : List Row). done ++ rs) (sym c.in-Some.ensures.steps) ∙ c.loop-row.invariant.whole in
    let there : row_at (number row) rows ≡ Some row = found rows done c.next.new.self row whole c.root-root.ensures.known.once in
    let gone : row_at (number row) rows ≡ None = subst (λ (rs : List Row). row_at (number row) rs ≡ None) c.requires.same c.in_default.ensures.style in
    let clash : None ≡ Some row = sym gone ∙ there in
    cc

pub loop-row-preserved : goal.loop-row-preserved
loop-row-preserved c =
    let row = plain c.in-Some.row.now in
    let rows = c.args.tree.now.rows in
    let done = c.loop-row.invariant.done in
    let whole : done ++ (row ∷ c.next.new.self) ≡ rows = ap (λ (rs : List Row). done ++ rs) (sym c.in-Some.ensures.steps) ∙ c.loop-row.invariant.whole in
    let styles = all_styles c.args.styles.now.sheet c.args.styles.now.state rows in
    let own : styles (number row) ≡ Some c.in-Some-style.style.now = ap (λ (rs : List Row). all_styles c.args.styles.now.sheet c.args.styles.now.state rs (number row)) (sym c.requires.same) ∙ sym c.in-Some-style.ensures.exact in
    record {
      done = done ++ (row ∷ []);
      whole = append_assoc done (row ∷ []) c.next.new.self ∙ whole;
      made = c.in_ok-push.ensures.items ∙ styled_next styles done row c.in-Some-style.style.now c.loop-row.rows.items c.loop-row.invariant.made own;
    }

pub returns-clause-few : goal.returns-clause-few
returns-clause-few c =
    let done = c.loop-row.invariant.done in
    let known = c.root-root.ensures.known in
    let rows = c.args.tree.now.rows in
    let styles = all_styles c.args.styles.now.sheet c.args.styles.now.state rows in
    let few = few_rows c.args.tree.now.made rows known.once known.in_range in
    omega (arith, ap (λ (rs : List Styled). length rs) c.loop-row.invariant.made, length-map done (styled styles), ap (λ (rs : List Row). length rs) c.loop-row.invariant.whole, length-append done c.loop-row.row-iterator, few, known.few)
