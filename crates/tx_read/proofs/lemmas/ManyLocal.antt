-- Items one behind another depend on nothing behind the element at which they stop.
use Rattle.std.proofs.Common.{◌≡◌, ℕ, zero, suc, ◌+◌, ◌≤◌, Bool, true, false, cond, List, [], ◌∷◌, ◌++◌, length, Result, Ok, Err, refl, ap, sym, ◌∙◌, arith}
use Rattle.std.proofs.lemmas.List.{append_cancel_right}
use Rattle.tx_read.specs.Reading.{Reader, ◌>>=◌, in_turn, ends_at, then_items, many_within, many, with_items, whole, Shrinks, ByFirst, IsLocal, Leaves}
use Rattle.tx_read.proofs.lemmas.Locality.{in_turn-local, in_turn-leaves}
use Rattle.tx_read.proofs.lemmas.ManyItems.{many_within-enough}

-- a reader that takes nothing
abbrev nothing_read : {T K A : Type 0} → A → Reader (List T) (K × List T) A
nothing_read a xs = Ok (a, xs)

-- what an answer says of its parts
abbrev IsOk : {A S F : Type 0} → Result (A × S) F → A → S → Type 0
IsOk found b t = found ≡ Ok (b, t)

same-parts : {A S F : Type 0} (a b : A) (s t : S) → IsOk {F = F} (Ok (a, s)) b t → (a ≡ b) × (s ≡ t)
same-parts {A = A} {S = S} a b s t is = let pair : ◌≡◌ {A = A × S} (a, s) (b, t) = cc in (ap (λ (p : A × S). p.0) pair, ap (λ (p : A × S). p.1) pair)

abbrev IsErr : {A S F : Type 0} → Result (A × S) F → F → Type 0
IsErr found fault = found ≡ Err fault

no-fault : {A S F : Type 0} (a : A) (s : S) (fault : F) → IsErr (Ok (a, s)) fault → ⊥
no-fault a s fault is = cc

nothing-local : {T K A : Type 0} (a : A) → IsLocal {T = T} {K = K} (nothing_read a)
nothing-local a = record {
  value = λ front more other t b is.
      let parts : (a ≡ b) × (front ++ (t ∷ more) ≡ t ∷ more) = same-parts a b (front ++ (t ∷ more)) (t ∷ more) is in
      let none : front ≡ [] = append_cancel_right front [] (t ∷ more) parts.1 in
      ap (λ f. Ok (a, f ++ (t ∷ other))) none ∙ ap (λ x. Ok (x, t ∷ other)) parts.0;
  fault = λ front more other t kind is. absurd (no-fault a (front ++ (t ∷ more)) (kind, t ∷ more) is);
}

nothing-leaves : {T K A : Type 0} (a : A) → Leaves {T = T} {K = K} (nothing_read a)
nothing-leaves a = record {
  value = λ xs rest b is. ([], (same-parts a b xs rest is).1);
  fault = λ xs rest kind is. absurd (no-fault a xs (kind, rest) is);
}

-- an item, then at most so many more
abbrev behind_item : {T K A : Type 0} → (List T → Bool) → Reader (List T) (K × List T) A → ℕ → A → Reader (List T) (K × List T) (List A)
behind_item begins item most a = in_turn (λ xs. whole (many_within most begins item xs)) (λ items. nothing_read (a ∷ items))

ends-whole : {A S F : Type 0} (a : A) (items : List A) (end : Result S F) → with_items (a ∷ items) end ≡ (with_items items end >>= (λ g. Ok (a ∷ g.0, g.1)))
ends-whole a items (Ok s) = refl
ends-whole a items (Err fault) = refl

then-whole : {T K A : Type 0} (begins : List T → Bool) (item : Reader (List T) (K × List T) A) (most : ℕ) (found : Result (A × List T) (K × List T))
    → whole (then_items found (many_within most begins item)) ≡ (found >>= (λ f. behind_item begins item most f.0 f.1))
then-whole begins item most (Err fault) = refl
then-whole begins item most (Ok found) = ends-whole found.0 (many_within most begins item found.1).items (many_within most begins item found.1).end

-- ---- at most so many

within-step : {T K A : Type 0} (begins : List T → Bool) (item : Reader (List T) (K × List T) A) (most : ℕ) (xs : List T) (b : Bool) → begins xs ≡ b
    → whole (many_within (suc most) begins item xs) ≡ cond b (in_turn item (behind_item begins item most) xs) (Ok ([], xs))
within-step begins item most xs true is =
    ap (λ t. whole (cond t (then_items (item xs) (many_within most begins item)) (ends_at (Ok xs)))) is ∙ then-whole begins item most (item xs)
within-step begins item most xs false is =
    ap (λ t. whole (cond t (then_items (item xs) (many_within most begins item)) (ends_at (Ok xs)))) is

begins-other : {T : Type 0} (begins : List T → Bool) → ByFirst begins → (front more other : List T) (t : T) → begins (front ++ (t ∷ more)) ≡ begins (front ++ (t ∷ other))
begins-other begins first [] more other t = first.same t more other
begins-other begins first (x ∷ front) more other t = first.same x (front ++ (t ∷ more)) (front ++ (t ∷ other))

-- the reader of at most so many items
abbrev within : {T K A : Type 0} → (List T → Bool) → Reader (List T) (K × List T) A → ℕ → Reader (List T) (K × List T) (List A)
within begins item most xs = whole (many_within most begins item xs)

step-value : {T K A : Type 0} (begins : List T → Bool) (item : Reader (List T) (K × List T) A) (most : ℕ) → ByFirst begins → IsLocal (in_turn item (behind_item begins item most))
    → (front more other : List T) (t : T) (items : List A) (b : Bool) → begins (front ++ (t ∷ more)) ≡ b
    → within begins item (suc most) (front ++ (t ∷ more)) ≡ Ok (items, t ∷ more) → within begins item (suc most) (front ++ (t ∷ other)) ≡ Ok (items, t ∷ other)
step-value begins item most first local front more other t items true is read =
    within-step begins item most (front ++ (t ∷ other)) true (sym (begins-other begins first front more other t) ∙ is)
    ∙ local.value front more other t items (sym (within-step begins item most (front ++ (t ∷ more)) true is) ∙ read)
step-value begins item most first local front more other t items false is read =
    within-step begins item most (front ++ (t ∷ other)) false (sym (begins-other begins first front more other t) ∙ is)
    ∙ (nothing-local []).value front more other t items (sym (within-step begins item most (front ++ (t ∷ more)) false is) ∙ read)

step-fault : {T K A : Type 0} (begins : List T → Bool) (item : Reader (List T) (K × List T) A) (most : ℕ) → ByFirst begins → IsLocal (in_turn item (behind_item begins item most))
    → (front more other : List T) (t : T) (kind : K) (b : Bool) → begins (front ++ (t ∷ more)) ≡ b
    → within begins item (suc most) (front ++ (t ∷ more)) ≡ Err (kind, t ∷ more) → within begins item (suc most) (front ++ (t ∷ other)) ≡ Err (kind, t ∷ other)
step-fault begins item most first local front more other t kind true is read =
    within-step begins item most (front ++ (t ∷ other)) true (sym (begins-other begins first front more other t) ∙ is)
    ∙ local.fault front more other t kind (sym (within-step begins item most (front ++ (t ∷ more)) true is) ∙ read)
step-fault begins item most first local front more other t kind false is read =
    absurd (no-fault [] (front ++ (t ∷ more)) (kind, t ∷ more) (sym (within-step begins item most (front ++ (t ∷ more)) false is) ∙ read))

leaves-step-value : {T K A : Type 0} (begins : List T → Bool) (item : Reader (List T) (K × List T) A) (most : ℕ) → Leaves (in_turn item (behind_item begins item most))
    → (xs rest : List T) (items : List A) (b : Bool) → begins xs ≡ b → within begins item (suc most) xs ≡ Ok (items, rest) → (piece : List T) × (xs ≡ piece ++ rest)
leaves-step-value begins item most leaves xs rest items true is read = leaves.value xs rest items (sym (within-step begins item most xs true is) ∙ read)
leaves-step-value begins item most leaves xs rest items false is read = (nothing-leaves []).value xs rest items (sym (within-step begins item most xs false is) ∙ read)

leaves-step-fault : {T K A : Type 0} (begins : List T → Bool) (item : Reader (List T) (K × List T) A) (most : ℕ) → Leaves (in_turn item (behind_item begins item most))
    → (xs rest : List T) (kind : K) (b : Bool) → begins xs ≡ b → within begins item (suc most) xs ≡ Err (kind, rest) → (piece : List T) × (xs ≡ piece ++ rest)
leaves-step-fault begins item most leaves xs rest kind true is read = leaves.fault xs rest kind (sym (within-step begins item most xs true is) ∙ read)
leaves-step-fault begins item most leaves xs rest kind false is read =
    absurd (no-fault [] xs (kind, rest) (sym (within-step begins item most xs false is) ∙ read))

within-leaves : {T K A : Type 0} (begins : List T → Bool) (item : Reader (List T) (K × List T) A) → Leaves item → (most : ℕ) → Leaves (within begins item most)
within-leaves begins item leaves zero = nothing-leaves []
within-leaves begins item leaves (suc most) =
    let turn : Leaves (in_turn item (behind_item begins item most)) = in_turn-leaves item (behind_item begins item most) leaves
    (λ a. in_turn-leaves (within begins item most) (λ items. nothing_read (a ∷ items)) (within-leaves begins item leaves most) (λ items. nothing-leaves (a ∷ items))) in
    record {
      value = λ xs rest items is. leaves-step-value begins item most turn xs rest items (begins xs) refl is;
      fault = λ xs rest kind is. leaves-step-fault begins item most turn xs rest kind (begins xs) refl is;
    }

within-local : {T K A : Type 0} (begins : List T → Bool) (item : Reader (List T) (K × List T) A) → ByFirst begins → IsLocal item → Leaves item → (most : ℕ) → IsLocal (within begins item most)
within-local begins item first local leaves zero = nothing-local []
within-local begins item first local leaves (suc most) =
    let turn : IsLocal (in_turn item (behind_item begins item most)) = in_turn-local item (behind_item begins item most) local leaves
    (λ a. in_turn-local (within begins item most) (λ items. nothing_read (a ∷ items)) (within-local begins item first local leaves most) (within-leaves begins item leaves most)
    (λ items. nothing-local (a ∷ items)) (λ items. nothing-leaves (a ∷ items)))
    (λ a. in_turn-leaves (within begins item most) (λ items. nothing_read (a ∷ items)) (within-leaves begins item leaves most) (λ items. nothing-leaves (a ∷ items))) in
    record {
      value = λ front more other t items is. step-value begins item most first turn front more other t items (begins (front ++ (t ∷ more))) refl is;
      fault = λ front more other t kind is. step-fault begins item most first turn front more other t kind (begins (front ++ (t ∷ more))) refl is;
    }

-- ---- as many as begin

-- the same as at most so many, where these are enough
many-within : {T K A : Type 0} (begins : List T → Bool) (item : Reader (List T) (K × List T) A) → Shrinks length begins item → (most : ℕ) (xs : List T) → length xs ≤ most
    → whole (many length begins item xs) ≡ within begins item most xs
unfolding many
many-within begins item shrinks most xs enough = ap whole (many_within-enough length begins item shrinks (length xs) most xs (omega arith) enough)

-- what is read as many items depends on nothing behind where they stop
pub many-local : {T K A : Type 0} (begins : List T → Bool) (item : Reader (List T) (K × List T) A) → ByFirst begins → Shrinks length begins item → IsLocal item → Leaves item
    → IsLocal (λ xs. whole (many length begins item xs))
many-local begins item first shrinks local leaves = record {
  value = λ front more other t items is.
      let most : ℕ = length (front ++ (t ∷ more)) + length (front ++ (t ∷ other)) in
      many-within begins item shrinks most (front ++ (t ∷ other)) (omega arith)
      ∙ (within-local begins item first local leaves most).value front more other t items (sym (many-within begins item shrinks most (front ++ (t ∷ more)) (omega arith)) ∙ is);
  fault = λ front more other t kind is.
      let most : ℕ = length (front ++ (t ∷ more)) + length (front ++ (t ∷ other)) in
      many-within begins item shrinks most (front ++ (t ∷ other)) (omega arith)
      ∙ (within-local begins item first local leaves most).fault front more other t kind (sym (many-within begins item shrinks most (front ++ (t ∷ more)) (omega arith)) ∙ is);
}

pub many-leaves : {T K A : Type 0} (begins : List T → Bool) (item : Reader (List T) (K × List T) A) → Shrinks length begins item → Leaves item
    → Leaves (λ xs. whole (many length begins item xs))
many-leaves begins item shrinks leaves = record {
  value = λ xs rest items is. (within-leaves begins item leaves (length xs)).value xs rest items (sym (many-within begins item shrinks (length xs) xs (omega arith)) ∙ is);
  fault = λ xs rest kind is. (within-leaves begins item leaves (length xs)).fault xs rest kind (sym (many-within begins item shrinks (length xs) xs (omega arith)) ∙ is);
}
