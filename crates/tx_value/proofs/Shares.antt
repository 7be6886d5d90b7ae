-- What a property takes of tokens is what it takes of their lexemes.
use Rattle.std.proofs.Common.{◌≡◌, ℕ, ◌%◌, Bool, true, false, ◌&&◌, nat_lt, List, [], ◌∷◌, length, take, drop, map, Some, None, option_map, cond, nat_eq, refl, ap, ◌∙◌}
use Rattle.std.specs.List.{list_any, drop-map, take-map}
use Rattle.std.proofs.lemmas.List.{length-map}
use Rattle.tx_value.specs.Declarations.{nth_in_turn, share}
use Rattle.tx_value.specs.declared.property.Named.{Named}
use Rattle.tx_value.specs.declared.property.Named.TheVariants.{Longhand, Margin, Padding, Border, Overflow, Align, ContentAlign}

nth-map : {A B : Type 0} → (f : A → B) (counts : List ℕ) (place : ℕ) (ts : List A) → nth_in_turn counts place (map f ts) ≡ option_map (map f) (nth_in_turn counts place ts)
nth-map f counts place ts =
    ap (λ n. cond (nat_lt 0 n && list_any (nat_eq n) counts) (Some (take 1 (drop (place % n) (map f ts)))) None) (length-map ts f)
    ∙ where_there (nat_lt 0 (length ts) && list_any (nat_eq (length ts)) counts)
  where
    where_there : (b : Bool) → cond b (Some (take 1 (drop (place % length ts) (map f ts)))) None ≡ option_map (map f) (cond b (Some (take 1 (drop (place % length ts) ts))) None)
    where_there true = ap Some (ap (take 1) (drop-map f (place % length ts) ts) ∙ take-map f 1 (drop (place % length ts) ts))
    where_there false = refl

pub share-map : {A B : Type 0} → (f : A → B) (what : Named) (place : ℕ) (ts : List A) → share what place (map f ts) ≡ option_map (map f) (share what place ts)
share-map f (Longhand one) place ts = refl
share-map f Margin place ts = nth-map f (1 ∷ 2 ∷ 4 ∷ []) place ts
share-map f Padding place ts = nth-map f (1 ∷ 2 ∷ 4 ∷ []) place ts
share-map f Border place ts = refl
share-map f Overflow place ts = nth-map f (1 ∷ 2 ∷ []) place ts
share-map f Align place ts = nth-map f (2 ∷ []) place ts
share-map f ContentAlign place ts = nth-map f (2 ∷ []) place ts
