-- Each value that a declaration gives is one that the table gives its property.
use Rattle.std.proofs.Common.{◌≡◌, ℕ, ◌+◌, Bool, true, false, List, [], ◌∷◌, Option, Some, None, option_map, Result, Ok, Err, Vec, cond, refl, subst}
use Rattle.std.specs.declared.alloc.Global.{Global}
use Rattle.std.specs.Prelude.{IfOk, option_and_then, codes}
use Rattle.tx_lex.specs.Lexemes.{Lexeme}
use Rattle.tx_value.specs.Answers.{GivesSome}
use Rattle.tx_value.specs.Names.{is_only}
use Rattle.tx_value.specs.Values.{joined, value_of_sort, value_of}
use Rattle.tx_value.specs.Declarations.{Pair, share, pairs_from, all_initial, pairs_of}
use Rattle.tx_value.specs.Holds.{is_of_sort, is_given, may_hold, AllHold}
use Rattle.tx_value.specs.PropertyTable.{Sort, Keyword, Size, Limit, Whole, Border, Colour, Marks, GridSize, Tracks, Gutter, Layers, Layer, Offset, sort_of}
use Rattle.tx_value.specs.Tables.{properties}
use Rattle.tx_value.specs.declared.fault.ValueFault.{ValueFault}
use Rattle.tx_value.specs.declared.fault.ValueFault.TheVariants.{BadValue}
use Rattle.tx_value.specs.declared.property.Named.{Named}
use Rattle.tx_value.specs.declared.property.Property.{Property}
use Rattle.tx_value.specs.declared.value.Value.{Value}
use Rattle.tx_value.specs.declared.value.Value.TheVariants as value
use Rattle.tx_value.proofs.Joined.{some_of_ok}
use Rattle.tx_value.proofs.Passing.{passes}
use Rattle.tx_value.proofs.Sorts as sorts

-- ---- one sort, and one property

value_of_sort_given : (s : Sort) (ts : List Lexeme) → passes (is_of_sort s) (value_of_sort s ts) ≡ true
value_of_sort_given (Keyword choices first) ts = sorts.word choices ts
value_of_sort_given Size ts = sorts.size ts
value_of_sort_given Limit ts = sorts.limit ts
value_of_sort_given (Whole least most) ts = sorts.whole least most ts
value_of_sort_given Border ts = sorts.border ts
value_of_sort_given (Colour first) ts = sorts.ink ts
value_of_sort_given Marks ts = sorts.text_style ts
value_of_sort_given GridSize ts = sorts.grid_size ts
value_of_sort_given Tracks ts = sorts.tracks ts
value_of_sort_given Gutter ts = sorts.gutter ts
value_of_sort_given Layers ts = sorts.layers ts
value_of_sort_given Layer ts = sorts.layer ts
value_of_sort_given Offset ts = sorts.offset ts

value_given : (p : Property) (ts : List Lexeme) → passes (is_given p) (value_of p ts) ≡ true
unfolding is_given value_of
value_given p ts = value_of_sort_given (sort_of p) ts

given_held : (p : Property) (v : Value) → is_given p v ≡ true → may_hold p v ≡ true
given_held p value.Initial h = refl
given_held p v h = h

-- ---- all properties of a name

abbrev Passes : {A : Type 0} → (A → Type 0) → Option A → Type 0
Passes P None = Unit {0}
Passes P (Some a) = P a

share_given : (p : Property) (o : Option (List Lexeme)) → passes (is_given p) (option_and_then (value_of p) o) ≡ true
share_given p None = refl
share_given p (Some ts) = value_given p ts

one_more : (p : Property) (o : Option Value) (rest : Option (List Pair)) → passes (is_given p) o ≡ true → Passes AllHold rest → Passes AllHold (joined (option_map (λ v. (p, v)) o) rest)
one_more p None rest h more = tt
one_more p (Some v) None h more = tt
one_more p (Some v) (Some pairs) h more = (given_held p v h, more)

pairs_given : (what : Named) (ts : List Lexeme) (place : ℕ) (ps : List Property) → Passes AllHold (pairs_from what ts place ps)
pairs_given what ts place [] = tt
pairs_given what ts place (p ∷ ps) =
    let o : Option (List Lexeme) = share what place ts in
    one_more p (option_and_then (value_of p) o) (pairs_from what ts (place + 1) ps) (share_given p o) (pairs_given what ts (place + 1) ps)

-- ---- `initial`

initial_held : (ps : List Property) → AllHold (all_initial ps)
initial_held [] = tt
initial_held (p ∷ ps) = (refl, initial_held ps)

either_held : (b : Bool) (x y : Option (List Pair)) → Passes AllHold x → Passes AllHold y → Passes AllHold (cond b x y)
either_held true x y h i = h
either_held false x y h i = i

pairs_held : (what : Named) (ts : List Lexeme) → Passes AllHold (pairs_of what ts)
unfolding pairs_of
pairs_held what ts = either_held (is_only (codes "initial") ts) _ _ (initial_held (properties what)) (pairs_given what ts 0 (properties what))

-- ---- the call

answer_held : (result : Result (Vec Pair Global) ValueFault) (read : Option (List Pair)) → Passes AllHold read → GivesSome (λ pairs. pairs.items) result read → IfOk result (λ pairs. AllHold pairs.items)
answer_held (Ok pairs) read h is = let P : Option (List Pair) → Type 0 = Passes AllHold in subst P (some_of_ok BadValue read pairs.items is) h
answer_held (Err fault) read h is = tt

pub all_held : (result : Result (Vec Pair Global) ValueFault) (what : Named) (ts : List Lexeme) → GivesSome (λ pairs. pairs.items) result (pairs_of what ts) → IfOk result (λ pairs. AllHold pairs.items)
all_held result what ts is = answer_held result (pairs_of what ts) (pairs_held what ts) is
