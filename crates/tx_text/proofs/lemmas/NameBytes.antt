-- The bytes of a name are ASCII.
use Rattle.std.proofs.Common.{◌≡◌, ℕ, zero, suc, ◌<◌, true, List, [], ◌∷◌, arith, lit<}
use Rattle.std.specs.List.{list_all}
use Rattle.std.specs.Str.{IsAscii}
use Rattle.std.proofs.lemmas.Bool.{and_parts, false≢true}
use Rattle.std.proofs.lemmas.Bool.Decides.{nat_tests}
use Rattle.tx_text.specs.Name.{begins_name, continues_name, is_name}

-- a byte that may begin a name is ASCII
begins-ascii : (byte : ℕ) → begins_name byte ≡ true → byte < 128
begins-ascii byte h = grind (arith, nat_tests)

-- and so is one that may stand behind it
continues-ascii : (byte : ℕ) → continues_name byte ≡ true → byte < 128
continues-ascii byte h = grind (arith, nat_tests)

-- bytes that may stand behind the first are ASCII
all_continue-ascii : (bytes : List ℕ) → list_all continues_name bytes ≡ true → IsAscii bytes
all_continue-ascii [] h i = lit< tt
all_continue-ascii (byte ∷ bytes) h zero = continues-ascii byte (and_parts _ _ h).0
all_continue-ascii (byte ∷ bytes) h (suc i) = all_continue-ascii bytes (and_parts _ _ h).1 i

-- a name is ASCII
pub IsAscii-name : (bytes : List ℕ) → is_name bytes ≡ true → IsAscii bytes
IsAscii-name [] h i = absurd (false≢true h)
IsAscii-name (byte ∷ bytes) h zero = begins-ascii byte (and_parts _ _ h).0
IsAscii-name (byte ∷ bytes) h (suc i) = all_continue-ascii bytes (and_parts _ _ (and_parts _ _ h).1).1 i
