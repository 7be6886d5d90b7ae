-- Tests that add up to counts.
use Rattle.std.proofs.Common.{◌≡◌, ℕ, ◌+◌, Bool, true, false, cond, refl, arith}

-- a count of none starts with a test that fails
pub none-head : (b : Bool) (c : ℕ) → cond b 1 0 + c ≡ 0 → b ≡ false
none-head true c h = absurd (omega arith)
none-head false c h = refl

-- and is none behind it
pub none-tail : (b : Bool) (c : ℕ) → cond b 1 0 + c ≡ 0 → c ≡ 0
none-tail b c h = omega arith
