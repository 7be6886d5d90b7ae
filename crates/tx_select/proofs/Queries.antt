-- What queries answer.
use Rattle.std.proofs.Common.{◌≡◌, ℕ, ◌≤◌, Bool, true, List, [], ◌∷◌, Option, Some, None, Result, Ok, Err, IfOk, IfSome, map, filter, option_map, refl, sym, ap, subst, ◌∙◌, inl, inr}
use Rattle.std.specs.Prelude.{Vec, unwrap_or}
use Rattle.std.specs.Option.{option_map_or}
use Rattle.std.specs.List.{find}
use Rattle.std.specs.declared.alloc.Global.{Global}
use Rattle.std.proofs.lemmas.Bool.{cases_Bool, eqb-true, false≢true}
use Rattle.tx_tree.specs.Row.{number, has_number}
use Rattle.tx_tree.specs.Rows.{row_at, count_of}
use Rattle.tx_tree.specs.declared.row.NodeId.{NodeId}
use Rattle.tx_tree.specs.declared.row.Row.{Row}
use Rattle.tx_select.specs.Match.{IsMatch, AreMatches, IsFirstMatch, first_node}
use Rattle.tx_select.specs.Climb.{is_match}
use Rattle.tx_select.specs.declared.value.Compound.{Compound}
use Rattle.tx_select.specs.declared.value.Pseudo.{Pseudo as State}
use Rattle.tx_select.proofs.lemmas.Placed.{match-sound, match-whole}

-- the first of those that pass
first-passing : (test : Row → Bool) (rows : List Row) → option_map (λ row. row.node) (find test rows) ≡ first_node (map (λ row. row.node) (filter test rows))
first-passing test [] = refl
first-passing test (row ∷ rows) = elim (cases_Bool (test row)) [
  | inl passes ↦ rw passes refl
  | inr fails ↦ rw fails (first-passing test rows)
]

find-passes : (test : Row → Bool) (rows : List Row) (row : Row) → find test rows ≡ Some row → test row ≡ true
find-passes test [] row is = cc
find-passes test (first ∷ rows) row is = elim (cases_Bool (test first)) [
  | inl passes ↦
      let was = rw passes at is in
      let same : first ≡ row = ap (λ (o : Option Row). unwrap_or o first) was in
      ap test (sym same) ∙ passes
  | inr fails ↦ let was = rw fails at is in find-passes test rows row was
]

-- the row with a number has it
row-number : (n : ℕ) (rows : List Row) (row : Row) → row_at n rows ≡ Some row → number row ≡ n
row-number n [] row is = cc
row-number n (first ∷ rows) row is = elim (cases_Bool (has_number n first)) [
  | inl same ↦
      let was = rw same at is in
      ap (λ (o : Option Row). option_map_or number o n) (sym was) ∙ eqb-true first.node.0 n same
  | inr other ↦ let was = rw other at is in row-number n rows row was
]

none-passes : (test : Row → Bool) (rows : List Row) (n : ℕ) (row : Row) → find test rows ≡ None → row_at n rows ≡ Some row → test row ≡ true → ⊥
none-passes test [] n row none there passes = cc
none-passes test (first ∷ rows) n row none there passes = elim (cases_Bool (test first)) [
  | inl has ↦ let was = rw has at none in cc
  | inr fails ↦
      let was = rw fails at none in
      elim (cases_Bool (has_number n first)) [
        | inl same ↦
            let here = rw same at there in
            let e : first ≡ row = ap (λ (o : Option Row). unwrap_or o first) here in
            false≢true (sym fails ∙ (ap test e ∙ passes))
        | inr other ↦ let here = rw other at there in none-passes test rows n row was here passes
      ]
]

module _ (rows : List Row) (once : (n : ℕ) → count_of n rows ≤ 1) (state : State) (compounds read : List Compound) (same : read ≡ compounds) where
  abbrev pub test_of : List Compound → Row → Bool
  test_of cs row = is_match state rows cs (number row)

  pub one-sound : (n : ℕ) (result : Bool) → result ≡ is_match state rows read n → result ≡ true → IsMatch state rows n compounds
  one-sound n result is ok = match-sound rows once state compounds n (sym (is ∙ ap (λ cs. is_match state rows cs n) same) ∙ ok)

  pub one-whole : (n : ℕ) (result : Bool) → result ≡ is_match state rows read n → IsMatch state rows n compounds → result ≡ true
  one-whole n result is found = is ∙ (ap (λ cs. is_match state rows cs n) same ∙ match-whole rows once state compounds n found)

  all-of : (nodes : List NodeId) → nodes ≡ map (λ row. row.node) (filter (test_of read) rows) → AreMatches state rows compounds nodes
  all-of nodes are = record {
    test = test_of compounds;
    sound = λ row. match-sound rows once state compounds (number row);
    whole = λ row. match-whole rows once state compounds (number row);
    are = are ∙ ap (λ cs. map (λ row. row.node) (filter (test_of cs) rows)) same;
  }

  pub all-queried : {E : Type 0} (result : Result (Vec NodeId Global) E) → IfOk result (λ nodes. nodes.items ≡ map (λ row. row.node) (filter (test_of read) rows))
      → IfOk result (λ nodes. AreMatches state rows compounds nodes.items)
  all-queried (Ok nodes) are = all-of nodes.items are
  all-queried (Err e) are = tt

  pub one-queried : (result : Option NodeId) → result ≡ option_map (λ row. row.node) (find (test_of read) rows) → IsFirstMatch state rows compounds result
  one-queried result is = record {
    nodes = map (λ row. row.node) (filter (test_of read) rows);
    all = all-of (map (λ row. row.node) (filter (test_of read) rows)) refl;
    is = is ∙ first-passing (test_of read) rows;
  }

  -- what is found matches
  pub one-found : (result : Option NodeId) → result ≡ option_map (λ row. row.node) (find (test_of read) rows) → IfSome result (λ node. IsMatch state rows node.0 compounds)
  one-found result is = by (find (test_of read) rows) refl result is
    where
      by : (first : Option Row) → find (test_of read) rows ≡ first → (result : Option NodeId) → result ≡ option_map (λ row. row.node) (find (test_of read) rows) → IfSome result (λ node. IsMatch state rows node.0 compounds)
      by None finds None is = tt
      by None finds (Some node) is = let bad : Some node ≡ None = is ∙ ap (option_map (λ row. row.node)) finds in cc
      by (Some row) finds None is = tt
      by (Some row) finds (Some node) is =
          let e : Some node ≡ Some row.node = is ∙ ap (option_map (λ row. row.node)) finds in
          let same : node ≡ row.node = ap (λ (o : Option NodeId). unwrap_or o node) e in
          subst (λ (m : NodeId). IsMatch state rows m.0 compounds) (sym same)
          (one-sound (number row) (test_of read row) refl (find-passes (test_of read) rows row finds))

  -- where none is found, none matches
  pub one-none : (result : Option NodeId) → result ≡ option_map (λ row. row.node) (find (test_of read) rows) → result ≡ None → (n : ℕ) → IsMatch state rows n compounds → ⊥
  one-none result is none n found = by (find (test_of read) rows) refl
    where
      by : (first : Option Row) → find (test_of read) rows ≡ first → ⊥
      by None finds = none-passes (test_of read) rows n found.row finds found.there
          (ap (λ k. is_match state rows read k) (row-number n rows found.row found.there) ∙ one-whole n (is_match state rows read n) refl found)
      by (Some row) finds = let bad : None ≡ Some row.node = sym none ∙ (is ∙ ap (option_map (λ row. row.node)) finds) in cc
