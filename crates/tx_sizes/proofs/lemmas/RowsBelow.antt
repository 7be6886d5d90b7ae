-- The rows below a row in preorder, and how many there are.
use Rattle.std.proofs.Common.{◌≡◌, ℕ, zero, suc, ◌+◌, ◌<◌, ◌≤◌, Bool, true, false, cond, List, [], ◌∷◌, length, drop, ◌∙◌, refl, ap, arith}
use Rattle.std.proofs.lemmas.Bool.{lt-ltb, ltb-true}
use Rattle.std.specs.List.{prefix_len}
use Rattle.std.specs.Prelude.{nat_lt}
use Rattle.tx_sizes.specs.Counts.{counts, is_deeper}
use Rattle.tx_sizes.specs.Forest.{Styled, Forest, Empty, Grown, depth, behind, forest}

pub deeper_too : (d e n : ℕ) → d ≤ e → nat_lt e n ≡ true → nat_lt d n ≡ true
deeper_too d e n h is = let less : e < n = ltb-true e n is in lt-ltb d n (omega arith)

-- ---- what stands behind the deeper ones

again-behind : (d e : ℕ) → d ≤ e → (row : Styled) (below beside : Forest) → behind d (behind e beside) ≡ behind d beside
    → (deep : Bool) → nat_lt e (depth row) ≡ deep → behind d (cond deep (behind e beside) (Grown row below beside)) ≡ behind d (Grown row below beside)
again-behind d e h row below beside same true is = rw (deeper_too d e (depth row) h is) same
again-behind d e h row below beside same false is = refl

-- what stands beside a shallower row stands beside what stands beside a deeper one
pub behind-behind : (d e : ℕ) → d ≤ e → (f : Forest) → behind d (behind e f) ≡ behind d f
behind-behind d e h Empty = refl
behind-behind d e h (Grown row below beside) =
    again-behind d e h row below beside (behind-behind d e h beside) (nat_lt e (depth row)) refl

skipped : (d : ℕ) (row : Styled) (rows : List Styled) → behind d (forest rows) ≡ forest (drop (prefix_len (is_deeper d) rows) rows)
    → (deep : Bool) → nat_lt d (depth row) ≡ deep
    → cond deep (behind d (behind (depth row) (forest rows))) (forest (row ∷ rows)) ≡ forest (drop (cond deep (1 + prefix_len (is_deeper d) rows) 0) (row ∷ rows))
skipped d row rows same true is =
    let less : d < depth row = ltb-true d (depth row) is in
    let next : 1 + prefix_len (is_deeper d) rows ≡ suc (prefix_len (is_deeper d) rows) = omega arith in
    rw next (behind-behind d (depth row) (omega arith) (forest rows) ∙ same)
skipped d row rows same false is = refl

-- what stands beside the deeper rows in front is what is made of the rows behind them
pub behind-count : (d : ℕ) (rows : List Styled) → behind d (forest rows) ≡ forest (drop (prefix_len (is_deeper d) rows) rows)
unfolding forest
behind-count d [] = refl
behind-count d (row ∷ rows) = skipped d row rows (behind-count d rows) (nat_lt d (depth row)) refl

-- ---- counts

pub length-counts : (rows : List Styled) → length (counts rows) ≡ length rows
unfolding counts
length-counts [] = refl
length-counts (row ∷ rows) = ap suc (length-counts rows)

pub counts-drop : (n : ℕ) (rows : List Styled) → counts (drop n rows) ≡ drop n (counts rows)
unfolding counts
counts-drop zero rows = refl
counts-drop (suc n) [] = refl
counts-drop (suc n) (row ∷ rows) = counts-drop n rows

longer : (d e : ℕ) → d ≤ e → (row : Styled) (rows : List Styled)
    → prefix_len (is_deeper d) rows ≡ prefix_len (is_deeper e) rows + prefix_len (is_deeper d) (drop (prefix_len (is_deeper e) rows) rows)
    → (deep : Bool) → nat_lt e (depth row) ≡ deep
    → prefix_len (is_deeper d) (row ∷ rows) ≡ cond deep (1 + prefix_len (is_deeper e) rows) 0 + prefix_len (is_deeper d) (drop (cond deep (1 + prefix_len (is_deeper e) rows) 0) (row ∷ rows))
longer d e h row rows same true is =
    let next : 1 + prefix_len (is_deeper e) rows ≡ suc (prefix_len (is_deeper e) rows) = omega arith in
    rw (deeper_too d e (depth row) h is, next) (omega (arith, same))
longer d e h row rows same false is = omega arith

-- the rows deeper than a depth are those deeper than a greater one, and then those behind these
pub prefix-deeper : (d e : ℕ) → d ≤ e → (rows : List Styled)
    → prefix_len (is_deeper d) rows ≡ prefix_len (is_deeper e) rows + prefix_len (is_deeper d) (drop (prefix_len (is_deeper e) rows) rows)
prefix-deeper d e h [] = refl
prefix-deeper d e h (row ∷ rows) = longer d e h row rows (prefix-deeper d e h rows) (nat_lt e (depth row)) refl
