-- The room for further classes, by the slots.
use Rattle.std.proofs.Common.{◌≡◌, ℕ, zero, suc, ◌+◌, ◌≤◌, ◌==◌, cond, List, [], ◌∷◌, Option, Some, None, is_some, true, map, refl, sym, ap, ◌∙◌, arith}
use Rattle.std.specs.Prelude.{slice_index}
use Rattle.tx_tree.specs.Links.{slots, rows_of, spare_in, IsLinked, KeepsRoom}
use Rattle.tx_tree.specs.Rows.{row_at}
use Rattle.tx_tree.proofs.Lookups.{row_in, row_at-slot}
use Rattle.tx_tree.specs.declared.tree.node.Node.{Node}

pub spare-slot : (nodes : List (Option Node)) (n : ℕ) → slice_index (map spare_in nodes) n ≡ spare_in (slots nodes n)
spare-slot [] n = refl
spare-slot (slot ∷ nodes) zero = refl
spare-slot (slot ∷ nodes) (suc n) = spare-slot nodes n

-- a slot with a row is in use
slot_there : (slot : Option Node) → is_some (row_in slot) ≡ true → is_some slot ≡ true
slot_there None h = h
slot_there (Some node) h = refl

-- what keeps the room of each slot keeps that of each row
pub keeps_spares : (old new : List (Option Node)) → IsLinked (slots new) → KeepsRoom old new
    → (n : ℕ) → is_some (row_at n (rows_of (slots new))) ≡ true → slice_index (map spare_in old) n ≤ slice_index (map spare_in new) n
keeps_spares old new linked keeps n live =
    let was = spare-slot old n in
    let is = spare-slot new n in
    let le = keeps n (slot_there (slots new n) (ap is_some (sym (row_at-slot linked n (slots new n) refl)) ∙ live)) in
    omega (arith, was, is, le)

-- what lowers the room of one slot by one place at most does so with the room of its row
pub lowers_one : (old new : List (Option Node)) (node : ℕ) → IsLinked (slots new)
    → ((n : ℕ) → is_some (slots new n) ≡ true → spare_in (slots old n) ≤ spare_in (slots new n) + cond (n == node) 1 0)
    → (n : ℕ) → is_some (row_at n (rows_of (slots new))) ≡ true → slice_index (map spare_in old) n ≤ slice_index (map spare_in new) n + cond (n == node) 1 0
lowers_one old new node linked lowers n live =
    let was = spare-slot old n in
    let is = spare-slot new n in
    let le = lowers n (slot_there (slots new n) (ap is_some (sym (row_at-slot linked n (slots new n) refl)) ∙ live)) in
    omega (arith, was, is, le)
