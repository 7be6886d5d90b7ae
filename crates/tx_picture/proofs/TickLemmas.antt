-- Cells one after another.
use Rattle.std.proofs.Common.{◌≡◌, ℕ, ◌+◌, ◌≤◌, List, [], ◌∷◌, ◌++◌, replicate, sym, subst, arith}
use Rattle.std.specs.List.{FoldsTo}
use Rattle.std.proofs.lemmas.List.{replicate-append-replicate}
use Rattle.tx_io.specs.declared.steps.Tick.{Tick}
use Rattle.tx_io.specs.declared.steps.Tick.TheVariants.{Cell}
use Rattle.tx_picture.specs.Ticks.{Composed, ComposedAtMost}

told_both : {L : Type 0} (ticked : L → Tick → L → Type 0) (a b c : L) (xs ys : List Tick) → FoldsTo ticked a xs b → FoldsTo ticked b ys c → FoldsTo ticked a (xs ++ ys) c
told_both {L} ticked a b c [] ys first second = subst (λ (l : L). FoldsTo ticked l ys c) (sym first) second
told_both ticked a b c (x ∷ xs) ys first second = (first.0, first.1, told_both ticked first.0 b c xs ys first.2 second)

-- some and then others
pub composed_both : {L : Type 0} (ticked : L → Tick → L → Type 0) (m n : ℕ) (a b c : L) → Composed ticked m a b → Composed ticked n b c → Composed ticked (m + n) a c
composed_both ticked m n a b c first second =
    subst (λ (ts : List Tick). FoldsTo ticked a ts c) (replicate-append-replicate m n Cell) (told_both ticked a b c (replicate m Cell) (replicate n Cell) first second)

pub composed_few : {L : Type 0} (ticked : L → Tick → L → Type 0) (n most : ℕ) (a b : L) → n ≤ most → Composed ticked n a b → ComposedAtMost ticked most a b
composed_few ticked n most a b few told = record { count = n; few = few; told = told }

-- some and then at most so many others
pub composed_more : {L : Type 0} (ticked : L → Tick → L → Type 0) (m n most : ℕ) (a b c : L) → m + n ≤ most → Composed ticked m a b → ComposedAtMost ticked n b c → ComposedAtMost ticked most a c
composed_more ticked m n most a b c few first second = record {
  count = m + second.count;
  few = omega (arith, few, second.few);
  told = composed_both ticked m second.count a b c first second.told;
}

pub composed_same : {L : Type 0} (ticked : L → Tick → L → Type 0) (m n : ℕ) (a b : L) → m ≡ n → Composed ticked m a b → Composed ticked n a b
composed_same ticked m n a b same told = subst (λ (k : ℕ). Composed ticked k a b) same told
