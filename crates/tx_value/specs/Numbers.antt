-- Numbers and sizes in values.
use Rattle.std.specs.Prelude.{ℕ, ◌+◌, ◌*◌, ◌^◌, ℤ, pos, neg_ℤ, Bool, true, false, ◌&&◌, nat_eq, nat_lt, nat_le, List, [], ◌∷◌, length, take, drop, Option, Some, None, option_map, bytes_eq, codes, if◌then◌else◌}
use Rattle.std.specs.Char.{is_ascii_digit}
use Rattle.std.specs.List.{prefix_len}
use Rattle.tx_read.specs.Number.{value, number_at_most}
use Rattle.tx_frac.specs.Ratio.{Ratio, lowest, whole_of}
use Rattle.tx_frac.specs.declared.scalars.Scalar.{Scalar}
use Rattle.tx_frac.specs.declared.scalars.Unit.{Unit}
use Rattle.tx_frac.specs.declared.scalars.Unit.TheVariants.{Fr, Auto}
use Rattle.tx_lex.specs.Digits.{most_whole, most_decimals}
use Rattle.tx_lex.specs.Lexemes.{Lexeme, is_number}
use Rattle.tx_read.specs.Words.{entry}
use Rattle.tx_value.specs.Names.{is_word}
use Rattle.tx_value.specs.Tables.{units}

-- from one number to another
abbrev pub is_within : ℕ → ℕ → ℕ → Bool
is_within least most n = nat_le least n && nat_le n most

-- ---- a number without a sign

-- the digits at the start, and what is after them
abbrev pub digits : List ℕ → List ℕ
digits bytes = take (prefix_len is_ascii_digit bytes) bytes

abbrev pub behind_digits : List ℕ → List ℕ
behind_digits bytes = drop (prefix_len is_ascii_digit bytes) bytes

-- the digits before the point, those after it, and the unit
pub record Numeral : Type 0 where
  pub whole : List ℕ
  pub decimals : List ℕ
  pub unit : List ℕ

abbrev pub with_whole : List ℕ → List ℕ → Numeral
with_whole whole [] = record { whole = whole; decimals = []; unit = [] }
with_whole whole (b ∷ bytes) =
    if nat_eq b 46 then record { whole = whole; decimals = digits bytes; unit = behind_digits bytes }
    else record { whole = whole; decimals = []; unit = b ∷ bytes }

abbrev pub numeral_of : List ℕ → Numeral
numeral_of bytes = with_whole (digits bytes) (behind_digits bytes)

-- a digit or more, and no more than a token may have
abbrev pub has_digits : List ℕ → List ℕ → Bool
has_digits whole decimals = nat_lt 0 (length whole + length decimals) && (nat_le (length whole) most_whole && nat_le (length decimals) most_decimals)

-- the number that the digits write
abbrev pub amount : List ℕ → List ℕ → Ratio
amount whole decimals = lowest (pos (value whole * 10 ^ length decimals + value decimals)) (10 ^ length decimals)

-- ---- sizes

-- the unit of a name; no name is that of cells
unfoldable pub unit_of : List ℕ → Option Unit
unit_of name = entry units name

abbrev pub sized : Numeral → Option Unit → Option Scalar
sized n None = None
sized n (Some unit) = if has_digits n.whole n.decimals then Some (record { value = amount n.whole n.decimals; unit = unit }) else None

-- a number without a sign, with one of the units or none
unfoldable pub scalar_of : Lexeme → Option Scalar
scalar_of t = if is_number t.kind then sized (numeral_of t.bytes) (unit_of (numeral_of t.bytes).unit) else None

abbrev pub auto : Scalar
auto = record { value = whole_of (pos 0); unit = Auto }

-- the same, or `auto`
abbrev pub size_of : Lexeme → Option Scalar
size_of t = if is_word (codes "auto") t then Some auto else scalar_of t

abbrev pub is_share : Unit → Bool
is_share Fr = true
is_share _ = false

abbrev pub unless_share : Option Scalar → Option Scalar
unless_share None = None
unless_share (Some s) = if is_share s.unit then None else Some s

-- a size that is no share of what is left
abbrev pub limit_of : Lexeme → Option Scalar
limit_of t = unless_share (scalar_of t)

-- ---- whole numbers

-- digits alone, at most as many as a token may have
abbrev pub short_number : ℕ → List ℕ → Option ℕ
short_number most bytes = if nat_le (length bytes) most_whole then number_at_most most bytes else None

abbrev pub from_least : ℕ → Option ℕ → Option ℕ
from_least least None = None
from_least least (Some n) = if nat_le least n then Some n else None

-- a number without unit, sign and decimals, from one number to another
abbrev pub whole_of_token : ℕ → ℕ → Lexeme → Option ℕ
whole_of_token least most t = if is_number t.kind then from_least least (short_number most t.bytes) else None

abbrev pub signed_number : ℕ → List ℕ → Option ℤ
signed_number most [] = None
signed_number most (b ∷ bytes) =
    if nat_eq b 45 then option_map (λ n. neg_ℤ (pos n)) (short_number most bytes) else option_map (λ n. pos n) (short_number most (b ∷ bytes))

-- the same with an optional `-`, from -most to most
abbrev pub signed_of : ℕ → Lexeme → Option ℤ
signed_of most t = if is_number t.kind then signed_number most t.bytes else None

-- `%` alone
abbrev pub is_percent_sign : List ℕ → Bool
is_percent_sign bytes = bytes_eq bytes (37 ∷ [])

-- a whole number from 0 to 100 with `%`
abbrev pub percent_of : Lexeme → Option ℕ
percent_of t =
    if is_number t.kind then (if is_percent_sign (behind_digits t.bytes) then short_number 100 (digits t.bytes) else None) else None
