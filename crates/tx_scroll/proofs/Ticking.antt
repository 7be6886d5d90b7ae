-- Ticks of one trial and of those after it.
use Rattle.std.proofs.Common.{◌≡◌, ℕ, suc, [], ◌∷◌, sym, subst, arith, Result, Ok, Err}
use Rattle.std.specs.List.{FoldsTo}
use Rattle.tx_io.specs.declared.steps.Tick.{Tick}
use Rattle.tx_io.specs.declared.steps.Tick.TheVariants.{Arranged}
use Rattle.tx_box.specs.declared.items.LayoutFault.{LayoutFault}
use Rattle.tx_box.specs.declared.items.LayoutFault.TheVariants.{Fraction, NoMemory}
use Rattle.tx_scroll.specs.Ticks.{TicksTimes, TicksAtMost, TicksBy}

-- one tick before others
next_times : {L : Type 0} (ticked : L → Tick → L → Type 0) (n : ℕ) (a b c : L) → FoldsTo ticked a (Arranged ∷ []) b → TicksTimes ticked n b c → TicksTimes ticked (suc n) a c
next_times {L} ticked n a b c first others = (first.0, first.1, subst (λ (l : L). TicksTimes ticked n l c) (sym first.2) others)

pub at-most-next : {L : Type 0} (ticked : L → Tick → L → Type 0) (n : ℕ) (a b c : L) → FoldsTo ticked a (Arranged ∷ []) b → TicksAtMost ticked n b c → TicksAtMost ticked (suc n) a c
at-most-next ticked n a b c first others =
    record { count = suc others.count; some = omega arith; few = omega (arith, others.few); ticks = next_times ticked others.count a b c first others.ticks }

pub by-next : {L R : Type 0} (ticked : L → Tick → L → Type 0) (result : Result R LayoutFault) (n : ℕ) (a b c : L) → FoldsTo ticked a (Arranged ∷ []) b → TicksBy ticked result n b c
    → TicksBy ticked result (suc n) a c
by-next ticked (Ok value) n a b c first others = next_times ticked n a b c first others
by-next ticked (Err (Fraction axis)) n a b c first others = next_times ticked n a b c first others
by-next ticked (Err NoMemory) n a b c first others = at-most-next ticked n a b c first others

-- one alone
pub one-time : {L : Type 0} (ticked : L → Tick → L → Type 0) (n : ℕ) (a b : L) → n ≡ 1 → FoldsTo ticked a (Arranged ∷ []) b → TicksTimes ticked n a b
one-time ticked n a b one first = subst (λ (m : ℕ). TicksTimes ticked m a b) (sym one) first
