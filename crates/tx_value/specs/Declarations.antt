-- What a declaration stands for.
use Rattle.std.specs.Prelude.{ℕ, ◌+◌, ◌%◌, nat_eq, nat_lt, ◌&&◌, List, [], ◌∷◌, length, take, drop, map, Option, Some, None, option_map, option_and_then, Result, Err, codes, if◌then◌else◌}
use Rattle.std.specs.List.{list_any}
use Rattle.tx_read.specs.Answer.{or_refused}
use Rattle.tx_lex.specs.Blanks.{without_blanks}
use Rattle.tx_lex.specs.Lexemes.{Lexeme}
use Rattle.tx_value.specs.Names.{is_only, meaning_of}
use Rattle.tx_value.specs.Tables.{properties}
use Rattle.tx_value.specs.Values.{joined, value_of}
use Rattle.tx_value.specs.declared.fault.ValueFault.{ValueFault}
use Rattle.tx_value.specs.declared.fault.ValueFault.TheVariants.{UnknownProperty, BadValue}
use Rattle.tx_value.specs.declared.property.Named.{Named}
use Rattle.tx_value.specs.declared.property.Named.TheVariants.{Longhand, Margin, Padding, Border, Overflow, Align, ContentAlign}
use Rattle.tx_value.specs.declared.property.Property.{Property}
use Rattle.tx_value.specs.declared.value.Value.{Value}
use Rattle.tx_value.specs.declared.value.Value.TheVariants.{Initial}

abbrev pub Pair : Type 0
Pair = Property × Value

-- ---- the tokens of each property

-- The token of a place, counted from 0, where there are tokens, as many as one of these counts. Behind the last one they come again.
abbrev pub nth_in_turn : {T : Type 0} → List ℕ → ℕ → List T → Option (List T)
nth_in_turn counts place ts = if nat_lt 0 (length ts) && list_any (nat_eq (length ts)) counts then Some (take 1 (drop (place % length ts) ts)) else None

-- What the property of a place takes. Four sides take all of them one value, or vertical and horizontal, or top, right, bottom and left. Overflow
-- is one for both directions, or x and y, and a place is horizontal and vertical. The sides of a border each take all tokens.
abbrev pub share : {T : Type 0} → Named → ℕ → List T → Option (List T)
share (Longhand one) place ts = Some ts
share Margin place ts = nth_in_turn (1 ∷ 2 ∷ 4 ∷ []) place ts
share Padding place ts = nth_in_turn (1 ∷ 2 ∷ 4 ∷ []) place ts
share Border place ts = Some ts
share Overflow place ts = nth_in_turn (1 ∷ 2 ∷ []) place ts
share Align place ts = nth_in_turn (2 ∷ []) place ts
share ContentAlign place ts = nth_in_turn (2 ∷ []) place ts

-- ---- a declaration

abbrev pub pair_at : Named → List Lexeme → ℕ → Property → Option Pair
pair_at what ts place p = option_map (λ v. (p, v)) (option_and_then (value_of p) (share what place ts))

-- properties with their values, where all have one; the first property has this place
abbrev pub pairs_from : Named → List Lexeme → ℕ → List Property → Option (List Pair)
pairs_from what ts place [] = Some []
pairs_from what ts place (p ∷ ps) = joined (pair_at what ts place p) (pairs_from what ts (place + 1) ps)

-- properties, each with `initial`
abbrev pub all_initial : List Property → List Pair
all_initial properties = map (λ p. (p, Initial)) properties

-- `initial` alone, or the values of the properties
unfoldable pub pairs_of : Named → List Lexeme → Option (List Pair)
pairs_of what ts = if is_only (codes "initial") ts then Some (all_initial (properties what)) else pairs_from what ts 0 (properties what)

-- the pairs that a declaration stands for: of a known name, by its tokens
abbrev pub valued : Option Named → List Lexeme → Result (List Pair) ValueFault
valued None ts = Err UnknownProperty
valued (Some what) ts = or_refused BadValue (pairs_of what (without_blanks ts))

abbrev pub declaration : List ℕ → List Lexeme → Result (List Pair) ValueFault
declaration name ts = valued (meaning_of name) ts
