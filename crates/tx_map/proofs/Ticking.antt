-- Arrangements one after another.
use Rattle.std.proofs.Common.{ℕ, ◌+◌, ◌≤◌, List, [], ◌∷◌, ◌++◌, replicate, refl, sym, subst, arith}
use Rattle.std.specs.List.{FoldsTo}
use Rattle.std.proofs.lemmas.List.{replicate-append-replicate}
use Rattle.tx_io.specs.declared.steps.Tick.{Tick}
use Rattle.tx_io.specs.declared.steps.Tick.TheVariants.{Arranged}
use Rattle.tx_map.specs.Ticks.{ArrangedAtMost}

told_both : {L : Type 0} (ticked : L → Tick → L → Type 0) (a b c : L) (xs ys : List Tick) → FoldsTo ticked a xs b → FoldsTo ticked b ys c → FoldsTo ticked a (xs ++ ys) c
told_both {L} ticked a b c [] ys first second = subst (λ (l : L). FoldsTo ticked l ys c) (sym first) second
told_both ticked a b c (x ∷ xs) ys first second = (first.0, first.1, told_both ticked first.0 b c xs ys first.2 second)

-- none
pub arranged_none : {L : Type 0} (ticked : L → Tick → L → Type 0) (most : ℕ) (a : L) → ArrangedAtMost ticked most a a
arranged_none ticked most a = record { count = 0; few = omega arith; told = refl }

-- some and then others
pub arranged_both : {L : Type 0} {ticked : L → Tick → L → Type 0} {m n : ℕ} {a b c : L} → ArrangedAtMost ticked m a b → ArrangedAtMost ticked n b c → ArrangedAtMost ticked (m + n) a c
arranged_both {L} {ticked} {m} {n} {a} {b} {c} first second = record {
  count = first.count + second.count;
  few = omega (arith, first.few, second.few);
  told = subst (λ (ts : List Tick). FoldsTo ticked a ts c) (replicate-append-replicate first.count second.count Arranged)
      (told_both ticked a b c (replicate first.count Arranged) (replicate second.count Arranged) first.told second.told);
}

-- at most so many are at most more
pub arranged_more : {L : Type 0} {ticked : L → Tick → L → Type 0} {m n : ℕ} {a b : L} → ArrangedAtMost ticked m a b → m ≤ n → ArrangedAtMost ticked n a b
arranged_more first more = record { count = first.count; few = omega (arith, first.few, more); told = first.told }
