-- The table of tokens: which bytes are a token of a kind.
use Rattle.std.specs.Prelude.{◌≡◌, ◌<◌, ◌≤◌, ℕ, Bool, true, false, ◌&&◌, nat_eq, List, [], ◌∷◌, length, take, if◌then◌else◌}
use Rattle.std.specs.Char.{is_ascii_alphabetic, is_ascii_digit}
use Rattle.std.specs.List.{list_all}
use Rattle.tx_text.specs.Name.{begins_name, continues_name}
use Rattle.tx_lex.specs.Bytes.{is_blank, is_mark}
use Rattle.tx_lex.specs.declared.token.TokenKind.{TokenKind}
use Rattle.tx_lex.specs.declared.token.TokenKind.TheVariants.{Space, Comment, Name, Hash, Variable, Number, Mark}

abbrev pub is_none : List ℕ → Bool
is_none [] = true
is_none (b ∷ bytes) = false

-- blanks, one or more
abbrev pub is_space : List ℕ → Bool
is_space [] = false
is_space (b ∷ bytes) = is_blank b && list_all is_blank bytes

-- the first `*/` is the end, where this byte stands before
abbrev pub closes_behind : ℕ → List ℕ → Bool
closes_behind last [] = false
closes_behind last (b ∷ bytes) = if nat_eq last 42 && nat_eq b 47 then is_none bytes else closes_behind b bytes

abbrev pub closes : List ℕ → Bool
closes [] = false
closes (b ∷ bytes) = closes_behind b bytes

-- `/*` up to the next `*/`
abbrev pub is_comment : List ℕ → Bool
is_comment [] = false
is_comment (a ∷ []) = false
is_comment (a ∷ b ∷ bytes) = nat_eq a 47 && (nat_eq b 42 && closes bytes)

-- a letter or `_`, then letters, digits, `_`, `-`
abbrev pub is_name : List ℕ → Bool
is_name [] = false
is_name (b ∷ bytes) = begins_name b && list_all continues_name bytes

-- `#`, then one or more letters, digits, `_`, `-`
abbrev pub is_hash : List ℕ → Bool
is_hash [] = false
is_hash (a ∷ []) = false
is_hash (a ∷ b ∷ bytes) = nat_eq a 35 && (continues_name b && list_all continues_name bytes)

-- `$`, then a name
abbrev pub is_variable : List ℕ → Bool
is_variable [] = false
is_variable (b ∷ bytes) = nat_eq b 36 && is_name bytes

-- ---- numbers, from their end

-- `%`, a run of letters, or nothing
abbrev pub is_unit : List ℕ → Bool
is_unit [] = true
is_unit (b ∷ bytes) = if nat_eq b 37 then is_none bytes else is_ascii_alphabetic b && list_all is_ascii_alphabetic bytes

-- digits, then a unit
abbrev pub is_decimals : List ℕ → Bool
is_decimals [] = true
is_decimals (b ∷ bytes) = if is_ascii_digit b then is_decimals bytes else is_unit (b ∷ bytes)

-- what stands after a point: a digit or more, then a unit
abbrev pub is_behind_point : List ℕ → Bool
is_behind_point [] = false
is_behind_point (b ∷ bytes) = is_ascii_digit b && is_decimals bytes

-- digits, then a point with digits or without both, then a unit
abbrev pub is_whole : List ℕ → Bool
is_whole [] = true
is_whole (b ∷ bytes) =
    if is_ascii_digit b then is_whole bytes
    else if nat_eq b 46 then is_behind_point bytes
    else is_unit (b ∷ bytes)

-- digits or a point with digits first
abbrev pub is_unsigned : List ℕ → Bool
is_unsigned [] = false
is_unsigned (b ∷ bytes) = if is_ascii_digit b then is_whole bytes else nat_eq b 46 && is_behind_point bytes

-- an optional `-` before that
abbrev pub is_number : List ℕ → Bool
is_number [] = false
is_number (b ∷ bytes) = if nat_eq b 45 then is_unsigned bytes else is_unsigned (b ∷ bytes)

-- ---- all kinds

abbrev pub is_mark_of : ℕ → List ℕ → Bool
is_mark_of mark [] = false
is_mark_of mark (b ∷ []) = nat_eq b mark && is_mark b
is_mark_of mark (_ ∷ _ ∷ _) = false

-- the bytes are a token of this kind
abbrev pub is_token : TokenKind → List ℕ → Bool
is_token Space bytes = is_space bytes
is_token Comment bytes = is_comment bytes
is_token Name bytes = is_name bytes
is_token Hash bytes = is_hash bytes
is_token Variable bytes = is_variable bytes
is_token Number bytes = is_number bytes
is_token (Mark mark) bytes = is_mark_of mark bytes

-- ---- the longest

-- the first n bytes pass a test, and no more of them do
pub record IsLongest (test : List ℕ → Bool) (bytes : List ℕ) (n : ℕ) : Type 0 where
  pub within : n ≤ length bytes
  pub passes : test (take n bytes) ≡ true
  pub none_longer : (m : ℕ) → n < m → m ≤ length bytes → test (take m bytes) ≡ false

-- no first bytes pass a test
abbrev pub PassesNone : (List ℕ → Bool) → List ℕ → Type 0
PassesNone test bytes = (n : ℕ) → n ≤ length bytes → test (take n bytes) ≡ false

-- the longest token with which the bytes begin, over all kinds
pub record IsLongestToken (bytes : List ℕ) (kind : TokenKind) (n : ℕ) : Type 0 where
  pub longest : IsLongest (is_token kind) bytes n
  pub of_all : (other : TokenKind) (m : ℕ) → n < m → m ≤ length bytes → is_token other (take m bytes) ≡ false

-- the bytes begin with no token
abbrev pub BeginsNone : List ℕ → Type 0
BeginsNone bytes = (kind : TokenKind) → PassesNone (is_token kind) bytes
