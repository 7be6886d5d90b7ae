-- What a climb finds is a match, and every match is found.
use Rattle.std.proofs.Common.{◌≡◌, ℕ, ◌≤◌, ◌&&◌, ◌||◌, Bool, true, false, not, List, [], ◌∷◌, Option, Some, None, refl, sym, ap, subst, ◌∙◌, inl, inr, ◌⊎◌, append-nil}
use Rattle.std.specs.Prelude.{unwrap_or}
use Rattle.std.specs.Option.{option_map_or}
use Rattle.std.proofs.lemmas.Bool.{false≢true}
use Rattle.tx_tree.specs.Row.{number}
use Rattle.tx_tree.specs.Rows.{row_at, parent_of, ancestors_of, count_of}
use Rattle.tx_tree.specs.declared.row.Row.{Row}
use Rattle.tx_select.specs.Holds.{compound_holds}
use Rattle.tx_select.specs.Match.{IsAmong, IsJoined, ArePlaced, last_row, IsMatch}
use Rattle.tx_select.specs.Climb.{climbs_from, is_match}
use Rattle.tx_select.specs.declared.value.Compound.{Compound}
use Rattle.tx_select.specs.declared.value.Pseudo.{Pseudo as State}
use Rattle.tx_select.proofs.lemmas.Ancestry.{up-none, up-parent}
use Rattle.tx_select.proofs.FitsUp.{some_end, passes_on, fits, turned_onto, climb-fits, turned-back}

and-left : (a b : Bool) → (a && b) ≡ true → a ≡ true
and-left true b is = refl
and-left false b is = is

and-right : (a b : Bool) → (a && b) ≡ true → b ≡ true
and-right true b is = is
and-right false b is = absurd (false≢true is)

and-both : (a b : Bool) → a ≡ true → b ≡ true → (a && b) ≡ true
and-both a b left right = ap (λ z. z && b) left ∙ right

or-right : (a b : Bool) → b ≡ true → (a || b) ≡ true
or-right true b is = refl
or-right false b is = is

or-cases : (a b : Bool) → (a || b) ≡ true → (a ≡ true) ⊎ (b ≡ true)
or-cases true b is = inl refl
or-cases false b is = inr is

abbrev head_or : Row → List Row → Row
head_or other [] = other
head_or other (row ∷ rows) = row

abbrev tail_of : List Row → List Row
tail_of [] = []
tail_of (row ∷ rows) = rows

module _ (rows : List Row) (once : (n : ℕ) → count_of n rows ≤ 1) where
  -- a row and its ancestors
  abbrev pub up_from : Row → List Row
  up_from row = row ∷ ancestors_of (number row) rows

  -- the ancestors of a row are none, or its parent with the parent's ancestors
  up-list : (n : ℕ) (first : Row) (above : List Row) (parent : Option Row) → parent_of n rows ≡ parent → ancestors_of n rows ≡ first ∷ above → (parent ≡ Some first) × (above ≡ ancestors_of (number first) rows)
  up-list n first above None no_parent is = let bad : [] ≡ first ∷ above = sym (up-none rows n no_parent) ∙ is in cc
  up-list n first above (Some row) is_parent is =
      let e : row ∷ ancestors_of (number row) rows ≡ first ∷ above = sym (up-parent rows once n row is_parent) ∙ is in
      let same : row ≡ first = ap (λ (l : List Row). head_or row l) e in
      (ap (λ (r : Row). Some r) same, sym (ap tail_of e) ∙ ap (λ (r : Row). ancestors_of (number r) rows) same)

  -- what passes from an ancestor up passes at an end of the ancestors
  end-among : (passes : List Row → Bool) (n : ℕ) (above : List Row) (row : Row) → ancestors_of n rows ≡ above → IsAmong row above → passes (up_from row) ≡ true → some_end passes above ≡ true
  end-among passes n [] row is among ok = absurd among
  end-among passes n (first ∷ above) row is among ok =
      let up = up-list n first above (parent_of n rows) refl is in
      elim among [
        | inl e ↦ ap (λ b. b || some_end passes above) (ap (λ (l : List Row). passes (first ∷ l)) up.1 ∙ (ap (λ (r : Row). passes (up_from r)) e ∙ ok))
        | inr more ↦ or-right (passes (first ∷ above)) (some_end passes above) (end-among passes (number first) above row (sym up.1) more ok)
      ]

  among-end : (passes : List Row → Bool) (n : ℕ) (above : List Row) → ancestors_of n rows ≡ above → some_end passes above ≡ true → (row : Row) × IsAmong row above × (passes (up_from row) ≡ true)
  among-end passes n [] is ok = absurd (false≢true ok)
  among-end passes n (first ∷ above) is ok =
      let up = up-list n first above (parent_of n rows) refl is in
      elim (or-cases (passes (first ∷ above)) (some_end passes above) ok) [
        | inl here ↦ (first, inl refl, sym (ap (λ (l : List Row). passes (first ∷ l)) up.1) ∙ here)
        | inr further ↦ let found = among-end passes (number first) above (sym up.1) further in (found.0, inr found.1, found.2)
      ]

  -- what passes from a joined row up passes further up
  passes-joined : (passes : List Row → Bool) (child : Bool) (above row : Row) → IsJoined rows child above row → passes (up_from above) ≡ true → passes_on (not child) passes (ancestors_of (number row) rows) ≡ true
  passes-joined passes true above row joined ok = ap passes (up-parent rows once (number row) above joined) ∙ ok
  passes-joined passes false above row joined ok = end-among passes (number row) (ancestors_of (number row) rows) above refl joined ok

  -- and what passes further up does so from a joined row
  abbrev PassesFrom : (List Row → Bool) → Bool → Row → Type 0
  PassesFrom passes child row = (above : Row) × IsJoined rows child above row × (passes (up_from above) ≡ true)

  parent-passes : (passes : List Row → Bool) (row : Row) (parent : Option Row) → parent_of (number row) rows ≡ parent → passes [] ≡ false → passes (ancestors_of (number row) rows) ≡ true → PassesFrom passes true row
  parent-passes passes row None is none ok = absurd (false≢true (sym none ∙ (sym (ap passes (up-none rows (number row) is)) ∙ ok)))
  parent-passes passes row (Some above) is none ok = (above, is, sym (ap passes (up-parent rows once (number row) above is)) ∙ ok)

  joined-passes : (passes : List Row → Bool) (child : Bool) (row : Row) → passes [] ≡ false → passes_on (not child) passes (ancestors_of (number row) rows) ≡ true → PassesFrom passes child row
  joined-passes passes true row none ok = parent-passes passes row (parent_of (number row) rows) refl none ok
  joined-passes passes false row none ok = among-end passes (number row) (ancestors_of (number row) rows) refl ok

  module _ (state : State) where
    -- the first compound holds of the first row
    first-holds : (compound : Compound) (compounds : List Compound) (row : Row) (places : List Row) → ArePlaced state rows (compound ∷ compounds) (row ∷ places) → compound_holds state rows row compound ≡ true
    first-holds compound [] row [] placed = placed
    first-holds compound [] row (below ∷ places) placed = absurd placed
    first-holds compound (next ∷ compounds) row [] placed = absurd placed
    first-holds compound (next ∷ compounds) row (below ∷ places) placed = placed.0

    -- what is placed fits from the last row up
    placed-fits : (before : List Compound) (compound : Compound) (compounds : List Compound) (row : Row) (places : List Row) (last : Row) → ArePlaced state rows (compound ∷ compounds) (row ∷ places)
        → last_row (row ∷ places) ≡ Some last → fits (compound_holds state rows) (compound ∷ before) (up_from row) ≡ true
        → fits (compound_holds state rows) (turned_onto (compound ∷ before) compounds) (up_from last) ≡ true
    placed-fits before compound [] row [] last placed is ok = subst (λ (r : Row). fits (compound_holds state rows) (compound ∷ before) (up_from r) ≡ true) (ap (λ (o : Option Row). unwrap_or o row) is) ok
    placed-fits before compound [] row (below ∷ places) last placed is ok = absurd placed
    placed-fits before compound (next ∷ compounds) row [] last placed is ok = absurd placed
    placed-fits before compound (next ∷ compounds) row (below ∷ places) last placed is ok =
        placed-fits (compound ∷ before) next compounds below places last placed.2 is
        (and-both (compound_holds state rows below next) (passes_on (not next.child) (fits (compound_holds state rows) (compound ∷ before)) (ancestors_of (number below) rows))
        (first-holds next compounds below places placed.2)
        (passes-joined (fits (compound_holds state rows) (compound ∷ before)) next.child row below placed.1 ok))

    -- compounds can be placed, the last one at this row
    abbrev IsPlacement : List Compound → Row → Type 0
    IsPlacement compounds last = (places : List Row) × ArePlaced state rows compounds places × (last_row places ≡ Some last)

    -- what fits from a row up, before what is placed from there down, can be placed
    fits-placed : (before : List Compound) (compound : Compound) (compounds : List Compound) (row : Row) (places : List Row) (last : Row) → fits (compound_holds state rows) (compound ∷ before) (up_from row) ≡ true
        → ArePlaced state rows (compound ∷ compounds) (row ∷ places) → last_row (row ∷ places) ≡ Some last → IsPlacement (turned_onto (compound ∷ compounds) before) last
    fits-placed [] compound compounds row places last ok placed is = (row ∷ places, placed, is)
    fits-placed (next ∷ before) compound compounds row places last ok placed is =
        let above = joined-passes (fits (compound_holds state rows) (next ∷ before)) compound.child row refl (and-right (compound_holds state rows row compound) _ ok) in
        let holds : compound_holds state rows above.0 next ≡ true = and-left (compound_holds state rows above.0 next) _ above.2 in
        fits-placed before next (compound ∷ compounds) above.0 (row ∷ places) last above.2 (holds, above.1, placed) is

    fits-match : (turned : List Compound) (row : Row) → fits (compound_holds state rows) turned (up_from row) ≡ true → IsPlacement (turned_onto [] turned) row
    fits-match [] row ok = absurd (false≢true ok)
    fits-match (compound ∷ before) row ok = fits-placed before compound [] row [] row ok (and-left (compound_holds state rows row compound) _ ok) refl

    turned-twice : (compounds : List Compound) → turned_onto [] (turned_onto [] compounds) ≡ compounds
    turned-twice compounds = turned-back [] [] compounds ∙ append-nil compounds

    from-climb : (compounds : List Compound) (row : Row) → climbs_from state rows compounds row ≡ true → IsPlacement compounds row
    unfolding climbs_from
    from-climb compounds row ok =
        subst (λ (cs : List Compound). IsPlacement cs row) (turned-twice compounds)
        (fits-match (turned_onto [] compounds) row (sym (climb-fits (compound_holds state rows) compounds (up_from row)) ∙ ok))

    to-climb : (compounds : List Compound) (row : Row) (places : List Row) → ArePlaced state rows compounds places → last_row places ≡ Some row → climbs_from state rows compounds row ≡ true
    unfolding climbs_from
    to-climb [] row places placed is = absurd placed
    to-climb (compound ∷ compounds) row [] placed is = cc
    to-climb (compound ∷ compounds) row (first ∷ places) placed is =
        climb-fits (compound_holds state rows) (compound ∷ compounds) (up_from row)
        ∙ placed-fits [] compound compounds first places row placed is (and-both (compound_holds state rows first compound) true (first-holds compound compounds first places placed) refl)

    sound-at : (compounds : List Compound) (n : ℕ) (at : Option Row) → row_at n rows ≡ at → option_map_or (climbs_from state rows compounds) at false ≡ true → IsMatch state rows n compounds
    sound-at compounds n None there ok = absurd (false≢true ok)
    sound-at compounds n (Some row) there ok =
        let found = from-climb compounds row ok in
        record { row = row; there = there; places = found.0; placed = found.1; last = found.2 }

    pub match-sound : (compounds : List Compound) (n : ℕ) → is_match state rows compounds n ≡ true → IsMatch state rows n compounds
    unfolding is_match
    match-sound compounds n ok = sound-at compounds n (row_at n rows) refl ok

    pub match-whole : (compounds : List Compound) (n : ℕ) → IsMatch state rows n compounds → is_match state rows compounds n ≡ true
    unfolding is_match
    match-whole compounds n is = ap (λ (o : Option Row). option_map_or (climbs_from state rows compounds) o false) is.there ∙ to-climb compounds is.row is.places is.placed is.last
