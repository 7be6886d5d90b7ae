-- Tests one after another.
use Rattle.std.proofs.Common.{◌≡◌, ℕ, ◌+◌, ◌≤◌, List, [], ◌∷◌, ◌++◌, replicate, refl, sym, subst, arith}
use Rattle.std.specs.List.{FoldsTo}
use Rattle.std.proofs.lemmas.List.{replicate-append-replicate}
use Rattle.tx_io.specs.declared.steps.Tick.{Tick}
use Rattle.tx_io.specs.declared.steps.Tick.TheVariants.{Test}
use Rattle.tx_cascade.specs.Tested.{TestedAtMost}

told-both : {L : Type 0} (ticked : L → Tick → L → Type 0) (a b c : L) (xs ys : List Tick) → FoldsTo ticked a xs b → FoldsTo ticked b ys c → FoldsTo ticked a (xs ++ ys) c
told-both {L} ticked a b c [] ys first second = subst (λ (l : L). FoldsTo ticked l ys c) (sym first) second
told-both ticked a b c (x ∷ xs) ys first second = (first.0, first.1, told-both ticked first.0 b c xs ys first.2 second)

-- no test at all
pub untested : {L : Type 0} (ticked : L → Tick → L → Type 0) (most : ℕ) (a : L) → TestedAtMost ticked most a a
untested ticked most a = record { tests = 0; few = omega arith; told = refl }

-- some tests and then others
pub both-tested : {L : Type 0} {ticked : L → Tick → L → Type 0} {m n : ℕ} {a b c : L} → TestedAtMost ticked m a b → TestedAtMost ticked n b c → TestedAtMost ticked (m + n) a c
both-tested {L} {ticked} {m} {n} {a} {b} {c} first second = record {
  tests = first.tests + second.tests;
  few = omega (arith, first.few, second.few);
  told = subst (λ (ts : List Tick). FoldsTo ticked a ts c) (replicate-append-replicate first.tests second.tests Test)
      (told-both ticked a b c (replicate first.tests Test) (replicate second.tests Test) first.told second.told);
}

-- at most so many are at most more
pub more-tested : {L : Type 0} {ticked : L → Tick → L → Type 0} {m n : ℕ} {a b : L} → TestedAtMost ticked m a b → m ≤ n → TestedAtMost ticked n a b
more-tested first more = record { tests = first.tests; few = omega (arith, first.few, more); told = first.told }

-- some tests, so that with so many more there are at most this many
pub record TestedWithin {L : Type 0} (ticked : L → Tick → L → Type 0) (more most : ℕ) (before after : L) : Type 0 where
  pub tests : ℕ
  pub within : tests + more ≤ most
  pub told : FoldsTo ticked before (replicate tests Test) after

pub within-none : {L : Type 0} (ticked : L → Tick → L → Type 0) (most : ℕ) (a : L) → TestedWithin ticked most most a a
within-none ticked most a = record { tests = 0; within = omega arith; told = refl }

-- with some of those that were left
pub within-next : {L : Type 0} {ticked : L → Tick → L → Type 0} {more next n most : ℕ} {a b c : L} → TestedWithin ticked more most a b → TestedAtMost ticked n b c → n + next ≡ more
    → TestedWithin ticked next most a c
unfolding both-tested
within-next {L} {ticked} {more} {next} {n} {most} {a} {b} {c} first second left =
    let whole = both-tested {m = first.tests} (record { tests = first.tests; few = omega arith; told = first.told }) second in
    record { tests = first.tests + second.tests; within = omega (arith, first.within, second.few, left); told = whole.told }

pub within-all : {L : Type 0} {ticked : L → Tick → L → Type 0} {more most : ℕ} {a b : L} → TestedWithin ticked more most a b → TestedAtMost ticked most a b
within-all first = record { tests = first.tests; few = omega (arith, first.within); told = first.told }
