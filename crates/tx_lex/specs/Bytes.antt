-- Classes of bytes.
use Rattle.std.specs.Prelude.{ℕ, Bool, ◌||◌, nat_eq, [], ◌∷◌}
use Rattle.std.specs.List.{list_any}

-- a blank, a tab, a line feed or a carriage return
abbrev pub is_blank : ℕ → Bool
is_blank b = nat_eq b 32 || nat_eq b 9 || nat_eq b 10 || nat_eq b 13

-- one of `:` `;` `,` `.` `>` `*` `{` `}` `(` `)` `!`
abbrev pub is_mark : ℕ → Bool
is_mark b = list_any (nat_eq b) (58 ∷ 59 ∷ 44 ∷ 46 ∷ 62 ∷ 42 ∷ 123 ∷ 125 ∷ 40 ∷ 41 ∷ 33 ∷ [])
