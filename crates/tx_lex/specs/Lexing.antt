-- How the tokens of bytes are read from the left.
use Rattle.std.specs.Prelude.{ℕ, ◌+◌, Bool, false, not, ◌&&◌, ◌||◌, nat_eq, nat_lt, List, [], ◌∷◌, length, take, drop, Option, Some, None, option_map, Result, Ok, Err, if◌then◌else◌}
use Rattle.std.specs.Char.{is_ascii_alphabetic, is_ascii_digit}
use Rattle.std.specs.List.{prefix_len}
use Rattle.std.specs.Str.Lossy.{utf8_valid_len}
use Rattle.tx_read.specs.Reading.{Run, many}
use Rattle.tx_lex.specs.Digits.{most_whole, most_decimals}
use Rattle.tx_lex.specs.Tokens.{is_none}
use Rattle.tx_text.specs.Name.{begins_name, continues_name}
use Rattle.tx_lex.specs.Bytes.{is_blank, is_mark}
use Rattle.tx_lex.specs.declared.token.TokenKind.{TokenKind}
use Rattle.tx_lex.specs.declared.token.TokenKind.TheVariants.{Space, Comment, Name, Hash, Variable, Number, Mark}
use Rattle.tx_lex.specs.declared.token.Token.{Token}
use Rattle.tx_lex.specs.declared.token.LexKind.{LexKind}
use Rattle.tx_lex.specs.declared.token.LexKind.TheVariants.{Unclosed, BadByte, NumberTooLong}
use Rattle.tx_lex.specs.declared.token.Fault.{Fault}
use Rattle.tx_lex.specs.declared.token.Wrong.{Wrong}
use Rattle.tx_lex.specs.declared.token.Scanned.{Scanned}

-- ---- lengths

-- the bytes of a unit
abbrev pub unit_len : List ℕ → ℕ
unit_len [] = 0
unit_len (b ∷ bytes) = if nat_eq b 37 then 1 else prefix_len is_ascii_alphabetic (b ∷ bytes)

-- those of digits and a unit
unfoldable pub decimals_len : List ℕ → ℕ
decimals_len bytes = let digits = prefix_len is_ascii_digit bytes in digits + unit_len (drop digits bytes)

-- the same, where there is a digit
abbrev pub behind_point_len : List ℕ → Option ℕ
behind_point_len [] = None
behind_point_len (b ∷ bytes) = if is_ascii_digit b then Some (decimals_len (b ∷ bytes)) else None

abbrev pub with_point : Option ℕ → ℕ
with_point None = 0
with_point (Some n) = n + 1

-- after the whole digits: a point with digits, or none, and a unit
abbrev pub behind_whole_len : List ℕ → ℕ
behind_whole_len [] = 0
behind_whole_len (b ∷ bytes) = if nat_eq b 46 then with_point (behind_point_len bytes) else unit_len (b ∷ bytes)

unfoldable pub whole_len : List ℕ → ℕ
whole_len bytes = let digits = prefix_len is_ascii_digit bytes in digits + behind_whole_len (drop digits bytes)

abbrev pub unsigned_len : List ℕ → Option ℕ
unsigned_len [] = None
unsigned_len (b ∷ bytes) =
    if is_ascii_digit b then Some (whole_len (b ∷ bytes))
    else if nat_eq b 46 then option_map (λ n. n + 1) (behind_point_len bytes)
    else None

unfoldable pub number_len : List ℕ → Option ℕ
number_len [] = None
number_len (b ∷ bytes) = if nat_eq b 45 then option_map (λ n. n + 1) (unsigned_len bytes) else unsigned_len (b ∷ bytes)

-- up to and with the first `*/`, where this byte stands before
abbrev pub close_behind : ℕ → List ℕ → Option ℕ
close_behind last [] = None
close_behind last (b ∷ bytes) = if nat_eq last 42 && nat_eq b 47 then Some 1 else option_map (λ n. n + 1) (close_behind b bytes)

abbrev pub close_len : List ℕ → Option ℕ
close_len [] = None
close_len (b ∷ bytes) = option_map (λ n. n + 1) (close_behind b bytes)

-- `/*` first
abbrev pub opens_comment : List ℕ → Bool
opens_comment [] = false
opens_comment (a ∷ []) = false
opens_comment (a ∷ b ∷ bytes) = nat_eq a 47 && nat_eq b 42

unfoldable pub comment_len : List ℕ → Option ℕ
comment_len bytes = if opens_comment bytes then option_map (λ n. n + 2) (close_len (drop 2 bytes)) else None

-- after a `#`
abbrev pub hash_len : List ℕ → Option ℕ
hash_len [] = None
hash_len (b ∷ bytes) = if continues_name b then Some (2 + prefix_len continues_name bytes) else None

-- after a `$`
abbrev pub variable_len : List ℕ → Option ℕ
variable_len [] = None
variable_len (b ∷ bytes) = if begins_name b then Some (2 + prefix_len continues_name bytes) else None

-- ---- one token

-- of this kind, where there is a length
abbrev pub of_kind : TokenKind → Option ℕ → Option (TokenKind × ℕ)
of_kind kind len = option_map (λ n. (kind, n)) len

-- a number, or the point that it doesn't have
abbrev pub number_or_point : ℕ → Option ℕ → Option (TokenKind × ℕ)
number_or_point b (Some n) = Some (Number, n)
number_or_point b None = if nat_eq b 46 then Some (Mark 46, 1) else None

-- The kind and the length of the token with which the bytes begin. The first byte tells the kind, but for a point.
unfoldable pub longest_token : List ℕ → Option (TokenKind × ℕ)
longest_token [] = None
longest_token (b ∷ bytes) =
    if is_blank b then Some (Space, 1 + prefix_len is_blank bytes)
    else if begins_name b then Some (Name, 1 + prefix_len continues_name bytes)
    else if nat_eq b 35 then of_kind Hash (hash_len bytes)
    else if nat_eq b 36 then of_kind Variable (variable_len bytes)
    else if nat_eq b 47 then of_kind Comment (comment_len (b ∷ bytes))
    else if is_ascii_digit b || nat_eq b 45 || nat_eq b 46 then number_or_point b (number_len (b ∷ bytes))
    else if is_mark b then Some (Mark b, 1)
    else None

-- ---- what is wrong at a place

-- how many digits stand after a point
abbrev pub decimals_of : List ℕ → ℕ
decimals_of [] = 0
decimals_of (b ∷ bytes) = if nat_eq b 46 then prefix_len is_ascii_digit bytes else 0

-- more digits before the point than are allowed, or after it
abbrev pub has_many_digits : List ℕ → Bool
has_many_digits bytes =
    let digits = prefix_len is_ascii_digit bytes in
    nat_lt most_whole digits || nat_lt most_decimals (decimals_of (drop digits bytes))

abbrev pub behind_sign : List ℕ → List ℕ
behind_sign [] = []
behind_sign (b ∷ bytes) = if nat_eq b 45 then bytes else b ∷ bytes

-- the first byte that isn't UTF-8, or begins a cut character
abbrev pub invalid_place : List ℕ → Option ℕ
invalid_place bytes = if nat_lt (utf8_valid_len bytes) (length bytes) then Some (utf8_valid_len bytes) else None

-- What is wrong with the bytes of a token: a number past its digits, a comment that isn't UTF-8.
abbrev pub wrong_in : TokenKind → List ℕ → Option Wrong
wrong_in Number bytes = if has_many_digits (behind_sign bytes) then Some (record { kind = NumberTooLong; offset = 0 }) else None
wrong_in Comment bytes = option_map (λ offset. record { kind = BadByte; offset = offset }) (invalid_place bytes)
wrong_in _ bytes = None

-- what is wrong where no token begins
abbrev pub wrong_here : List ℕ → LexKind
wrong_here bytes = if opens_comment bytes then Unclosed else BadByte

-- ---- tokens one after another

-- a place in the bytes, and what stands from there on
pub record Spot : Type 0 where
  pub place : ℕ
  pub rest : List ℕ

abbrev pub spot_at : List ℕ → ℕ → Spot
spot_at bytes place = record { place = place; rest = drop place bytes }

abbrev pub token_of : Spot → TokenKind → ℕ → Token
token_of spot kind n = record { kind = kind; from = spot.place; to = spot.place + n }

abbrev pub spot_behind : Spot → ℕ → Spot
spot_behind spot n = record { place = spot.place + n; rest = drop n spot.rest }

-- the token, if it is a comment: the only kind in which a fault lies after the first byte
abbrev pub if_comment : TokenKind → Token → Option Token
if_comment Comment token = Some token
if_comment _ token = None

-- something is wrong in a token of this kind and length
abbrev pub fault_of : Spot → TokenKind → ℕ → Wrong → Fault
fault_of spot kind n wrong = record { place = spot.place + wrong.offset; kind = wrong.kind; comment = if_comment kind (token_of spot kind n) }

-- no token begins here
abbrev pub fault_at : Spot → Fault
fault_at spot = record { place = spot.place; kind = wrong_here spot.rest; comment = None }

-- the token, unless something is wrong in it
abbrev pub sound_token : Spot → TokenKind → ℕ → Option Wrong → Result (Token × Spot) Fault
sound_token spot kind n None = Ok (token_of spot kind n, spot_behind spot n)
sound_token spot kind n (Some wrong) = Err (fault_of spot kind n wrong)

abbrev pub judged : Spot → Option (TokenKind × ℕ) → Result (Token × Spot) Fault
judged spot None = Err (fault_at spot)
judged spot (Some found) = sound_token spot found.0 found.1 (wrong_in found.0 (take found.1 spot.rest))

-- the token at a place
unfoldable pub token_at : Spot → Result (Token × Spot) Fault
token_at spot = judged spot (longest_token spot.rest)

abbrev pub is_more : Spot → Bool
is_more spot = not (is_none spot.rest)

abbrev pub left : Spot → ℕ
left spot = length spot.rest

abbrev pub tokens_from : Spot → Run Token Spot Fault
tokens_from spot = many left is_more token_at spot

abbrev pub start_of : List ℕ → Spot
start_of bytes = record { place = 0; rest = bytes }

abbrev pub fault_at_end : Result Spot Fault → Option Fault
fault_at_end (Ok spot) = None
fault_at_end (Err fault) = Some fault

abbrev pub of_run : Run Token Spot Fault → Scanned
of_run run = record { tokens = run.items; fault = fault_at_end run.end }

-- what bytes are read as: the tokens up to the first fault or the end, and that fault
abbrev pub lexed : List ℕ → Scanned
lexed bytes = of_run (tokens_from (start_of bytes))
