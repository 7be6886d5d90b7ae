use Rattle.std.proofs.Common.{false, ◌≡◌, ◌++◌, List, [], ◌∷◌, sym, ap, ◌∙◌, append_assoc}
use Rattle.std.proofs.lemmas.List.Elements.{All-append, All-cons, All-nil}
use Rattle.tx_picture.proofs.tests.is_built_in.Goals as goal
use Rattle.tx_tree.specs.Kind.{is_handed}
use Rattle.tx_tree.specs.Row.{plain}
use Rattle.tx_tree.specs.declared.row.Row.{Row}

pub loop-row-preserved : goal.loop-row-preserved
loop-row-preserved c =
    let row = plain c.in-Some.row.now in
    let done = c.loop-row.invariant.done in
    let whole : done ++ (row ∷ c.next.new.self) ≡ c.args.tree.now.rows = ap (λ (rs : List Row). done ++ rs) (sym c.in-Some.ensures.steps) ∙ c.loop-row.invariant.whole in
    let P : Row → Type 0 = λ row. is_handed row.kind ≡ false in
    record {
      done = done ++ (row ∷ []);
      whole = append_assoc done (row ∷ []) c.next.new.self ∙ whole;
      built = All-append P done (row ∷ []) c.loop-row.invariant.built (All-cons P row [] (sym c.is_handed.ensures ∙ c.if-is_handed.false) (All-nil P));
    }
