-- What a name is: 1 to 64 bytes, a letter or `_` followed by letters, digits, `_` and `-`.
use Rattle.std.specs.Prelude.{◌≡◌, ℕ, ◌-◌, ◌≤◌, Bool, false, ◌==◌, ◌&&◌, ◌||◌, nat_lt, IsTrue, List, [], ◌∷◌, length, take, drop, replicate}
use Rattle.std.specs.List.{list_all}
use Rattle.std.specs.Char.{is_ascii_alphabetic, is_ascii_alphanumeric}

-- a letter or `_`
abbrev pub begins_name : ℕ → Bool
begins_name byte = is_ascii_alphabetic byte || byte == 95

-- a letter, a digit, `_` or `-`
abbrev pub continues_name : ℕ → Bool
continues_name byte = (is_ascii_alphanumeric byte || byte == 95) || byte == 45

-- whether the bytes spell a name
abbrev pub is_name : List ℕ → Bool
is_name [] = false
is_name (byte ∷ bytes) = begins_name byte && (nat_lt (length bytes) 64 && list_all continues_name bytes)

-- the bytes spell a name
abbrev pub IsName : List ℕ → Type 0
IsName bytes = IsTrue (is_name bytes)

-- a name in an array of 64 bytes, with zeros after it
pub record IsStored (bytes : List ℕ) (len : ℕ) : Type 0 where
  pub fits : len ≤ 64
  pub size : length bytes ≡ 64
  pub spare : drop len bytes ≡ replicate (64 - len) 0
  pub name : IsName (take len bytes)
