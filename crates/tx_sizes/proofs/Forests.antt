-- What is below a row, and what stands beside it.
use Rattle.std.proofs.Common.{◌≡◌, ℕ, ◌+◌, ◌<◌, ◌≤◌, Bool, true, false, cond, List, [], ◌∷◌, ◌++◌, ◌∙◌, refl, sym, ap, append_assoc, arith}
use Rattle.std.proofs.lemmas.Bool.{le-ltb, lt-ltb, ltb-false}
use Rattle.std.proofs.lemmas.List.Elements.{All-tail, All-head}
use Rattle.std.specs.Prelude.{nat_lt}
use Rattle.tx_sizes.specs.Forest.{Styled, Forest, Empty, Grown, depth, under, behind, forest, preorder}
use Rattle.tx_sizes.specs.Laws.{AreDeeper, BeginsBeside, KeepsRows, SubtreesStandAlone}
use Rattle.tx_sizes.proofs.lemmas.RowsBelow.{behind-behind}

beside_too : (d e n : ℕ) → d ≤ e → nat_lt d n ≡ false → nat_lt e n ≡ false
beside_too d e n h is = let least : n ≤ d = ltb-false d n is in le-ltb e n (omega arith)

-- ---- one cut behind another

again-under : (d e : ℕ) → d ≤ e → (row : Styled) (below beside : Forest) → under e (under d beside) ≡ under e beside
    → (deep : Bool) → nat_lt d (depth row) ≡ deep → under e (cond deep (Grown row below (under d beside)) Empty) ≡ under e (Grown row below beside)
again-under d e h row below beside same true is = ap (λ f. cond (nat_lt e (depth row)) (Grown row below f) Empty) same
again-under d e h row below beside same false is = rw (beside_too d e (depth row) h is) refl

pub under-under : (d e : ℕ) → d ≤ e → (f : Forest) → under e (under d f) ≡ under e f
under-under d e h Empty = refl
under-under d e h (Grown row below beside) =
    again-under d e h row below beside (under-under d e h beside) (nat_lt d (depth row)) refl

swapped : (d e : ℕ) → d ≤ e → (row : Styled) (below beside : Forest) → under d (behind e beside) ≡ behind e (under d beside)
    → (shallow deep : Bool) → nat_lt d (depth row) ≡ shallow → nat_lt e (depth row) ≡ deep
    → under d (cond deep (behind e beside) (Grown row below beside)) ≡ behind e (cond shallow (Grown row below (under d beside)) Empty)
swapped d e h row below beside same true true s is = rw is same
swapped d e h row below beside same true false s is = rw (s, is) refl
swapped d e h row below beside same false true s is = absurd (let clash : true ≡ false = sym is ∙ beside_too d e (depth row) h s in cc)
swapped d e h row below beside same false false s is = rw s refl

pub under-behind : (d e : ℕ) → d ≤ e → (f : Forest) → under d (behind e f) ≡ behind e (under d f)
under-behind d e h Empty = refl
under-behind d e h (Grown row below beside) =
    swapped d e h row below beside (under-behind d e h beside) (nat_lt d (depth row)) (nat_lt e (depth row)) refl refl

-- ---- a subtree stands alone

pub record Cut (d : ℕ) (below after : List Styled) : Type 0 where
  pub under : under d (forest (below ++ after)) ≡ forest below
  pub behind : behind d (forest (below ++ after)) ≡ forest after

cut-none : (d : ℕ) (after : List Styled) → BeginsBeside d after → Cut d [] after
unfolding forest
cut-none d [] h = record { under = refl; behind = refl }
cut-none d (row ∷ rows) h =
    let is : nat_lt d (depth row) ≡ false = le-ltb d (depth row) h in
    record { under = rw is refl; behind = rw is refl }

cut-next : (d : ℕ) (row : Styled) (below after : List Styled) → d < depth row → Cut d below after → Cut d (row ∷ below) after
unfolding forest
cut-next d row below after deep cut =
    let is : nat_lt d (depth row) ≡ true = lt-ltb d (depth row) deep in
    let f = forest (below ++ after) in
    let e = depth row in
    let order : d ≤ e = omega arith in
    let inner : under e f ≡ under e (forest below) = sym (under-under d e order f) ∙ ap (under e) cut.under in
    let outer : under d (behind e f) ≡ behind e (forest below) = under-behind d e order f ∙ ap (behind e) cut.under in
    record {
      under = rw is (ap (λ g. Grown row g (under d (behind e f))) inner ∙ ap (Grown row (under e (forest below))) outer);
      behind = rw is (behind-behind d e order f ∙ cut.behind);
    }

pub cut : (d : ℕ) (below after : List Styled) → AreDeeper d below → BeginsBeside d after → Cut d below after
cut d [] after deeper beside = cut-none d after beside
cut d (row ∷ below) after deeper beside =
    let is_below : Styled → Type 0 = λ one. d < depth one in
    cut-next d row below after (All-head is_below row below deeper) (cut d below after (All-tail is_below row below deeper) beside)

pub stands_alone : SubtreesStandAlone
unfolding forest
stands_alone row below after deeper beside =
    let parts = cut (depth row) below after deeper beside in
    ap (λ f. Grown row f (behind (depth row) (forest (below ++ after)))) parts.under ∙ ap (Grown row (forest below)) parts.behind

-- ---- rows in preorder

joined : (d : ℕ) (row : Styled) (below beside : Forest) → preorder (under d beside) ++ preorder (behind d beside) ≡ preorder beside
    → (deep : Bool) → preorder (cond deep (Grown row below (under d beside)) Empty) ++ preorder (cond deep (behind d beside) (Grown row below beside)) ≡ preorder (Grown row below beside)
joined d row below beside same true = ap (λ rows. row ∷ rows) (append_assoc (preorder below) (preorder (under d beside)) (preorder (behind d beside)) ∙ ap (λ rows. preorder below ++ rows) same)
joined d row below beside same false = refl

rejoined : (d : ℕ) (f : Forest) → preorder (under d f) ++ preorder (behind d f) ≡ preorder f
rejoined d Empty = refl
rejoined d (Grown row below beside) = joined d row below beside (rejoined d beside) (nat_lt d (depth row))

pub keeps_rows : KeepsRows
unfolding forest
keeps_rows [] = refl
keeps_rows (row ∷ rows) = ap (λ others. row ∷ others) (rejoined (depth row) (forest rows) ∙ keeps_rows rows)
