-- A fault depends only on what stands up to it: this passes from readers to those that are made of them.
use Rattle.std.proofs.Common.{◌≡◌, List, [], ◌∷◌, ◌++◌, Result, Ok, Err, refl, ap, sym, ◌∙◌, append_assoc}
use Rattle.std.proofs.lemmas.List.{append_cancel_right}
use Rattle.tx_read.specs.Reading.{Reader, ◌>>=◌, in_turn, IsLocal, Leaves}

-- ---- what is left

leaves-behind : {T : Type 0} (xs mid rest : List T) → (piece : List T) × (xs ≡ piece ++ mid) → (piece : List T) × (mid ≡ piece ++ rest) → (piece : List T) × (xs ≡ piece ++ rest)
leaves-behind xs mid rest first second =
    (first.0 ++ second.0, first.1 ∙ ap (λ ys. first.0 ++ ys) second.1 ∙ sym (append_assoc first.0 second.0 rest))

leaves-value : {T K A B : Type 0} (first : Reader (List T) (K × List T) A) (second : A → Reader (List T) (K × List T) B) → Leaves first → ((a : A) → Leaves (second a))
    → (xs rest : List T) (b : B) (found : Result (A × List T) (K × List T)) → first xs ≡ found → (found >>= (λ f. second f.0 f.1)) ≡ Ok (b, rest) → (piece : List T) × (xs ≡ piece ++ rest)
leaves-value first second leaves rest_leaves xs rest b (Err fault) was is = absurd (let clash : Err fault ≡ Ok (b, rest) = is in cc)
leaves-value first second leaves rest_leaves xs rest b (Ok found) was is = leaves-behind xs found.1 rest (leaves.value xs found.1 found.0 was) ((rest_leaves found.0).value found.1 rest b is)

leaves-fault : {T K A B : Type 0} (first : Reader (List T) (K × List T) A) (second : A → Reader (List T) (K × List T) B) → Leaves first → ((a : A) → Leaves (second a))
    → (xs rest : List T) (kind : K) (found : Result (A × List T) (K × List T)) → first xs ≡ found → (found >>= (λ f. second f.0 f.1)) ≡ Err (kind, rest) → (piece : List T) × (xs ≡ piece ++ rest)
leaves-fault first second leaves rest_leaves xs rest kind (Err fault) was is = let same : fault ≡ (kind, rest) = cc in leaves.fault xs rest kind (was ∙ ap Err same)
leaves-fault first second leaves rest_leaves xs rest kind (Ok found) was is = leaves-behind xs found.1 rest (leaves.value xs found.1 found.0 was) ((rest_leaves found.0).fault found.1 rest kind is)

pub in_turn-leaves : {T K A B : Type 0} (first : Reader (List T) (K × List T) A) (second : A → Reader (List T) (K × List T) B)
    → Leaves first → ((a : A) → Leaves (second a)) → Leaves (in_turn first second)
in_turn-leaves first second leaves rest_leaves = record {
  value = λ xs rest b is. leaves-value first second leaves rest_leaves xs rest b (first xs) refl is;
  fault = λ xs rest kind is. leaves-fault first second leaves rest_leaves xs rest kind (first xs) refl is;
}

-- ---- what isn't looked at

-- a value behind which something was still read stays as well, and leaves that and the other end
value-kept : {T K A : Type 0} (first : Reader (List T) (K × List T) A) → IsLocal first → (front more other : List T) (t : T) (a : A) (p q mid : List T)
    → mid ≡ q ++ (t ∷ more) → front ++ (t ∷ more) ≡ p ++ mid → first (front ++ (t ∷ more)) ≡ Ok (a, mid) → first (front ++ (t ∷ other)) ≡ Ok (a, q ++ (t ∷ other))
value-kept first local front more other t a p [] mid is split was = local.value front more other t a (was ∙ ap (λ rest. Ok (a, rest)) is)
value-kept first local front more other t a p (u ∷ q) mid is split was =
    let parts : front ++ (t ∷ more) ≡ (p ++ (u ∷ q)) ++ (t ∷ more) = split ∙ ap (λ rest. p ++ rest) is ∙ sym (append_assoc p (u ∷ q) (t ∷ more)) in
    let fronts : front ≡ p ++ (u ∷ q) = append_cancel_right front (p ++ (u ∷ q)) (t ∷ more) parts in
    ap first (ap (λ f. f ++ (t ∷ other)) fronts ∙ append_assoc p (u ∷ q) (t ∷ other))
    ∙ local.value p (q ++ (t ∷ more)) (q ++ (t ∷ other)) u a
    (ap first (sym (split ∙ ap (λ rest. p ++ rest) is)) ∙ (was ∙ ap (λ rest. Ok (a, rest)) is))

local-value : {T K A B : Type 0} (first : Reader (List T) (K × List T) A) (second : A → Reader (List T) (K × List T) B)
    → IsLocal first → Leaves first → ((a : A) → IsLocal (second a)) → ((a : A) → Leaves (second a))
    → (front more other : List T) (t : T) (b : B) (found : Result (A × List T) (K × List T)) → first (front ++ (t ∷ more)) ≡ found
    → (found >>= (λ f. second f.0 f.1)) ≡ Ok (b, t ∷ more) → in_turn first second (front ++ (t ∷ other)) ≡ Ok (b, t ∷ other)
local-value first second local leaves rest_local rest_leaves front more other t b (Err fault) was is = absurd (let clash : Err fault ≡ Ok (b, t ∷ more) = is in cc)
local-value {T = T} first second local leaves rest_local rest_leaves front more other t b (Ok found) was is =
    let before : (piece : List T) × (front ++ (t ∷ more) ≡ piece ++ found.1) = leaves.value (front ++ (t ∷ more)) found.1 found.0 was in
    let behind : (piece : List T) × (found.1 ≡ piece ++ (t ∷ more)) = (rest_leaves found.0).value found.1 (t ∷ more) b is in
    ap (λ r. r >>= (λ f. second f.0 f.1)) (value-kept first local front more other t found.0 before.0 behind.0 found.1 behind.1 before.1 was)
    ∙ (rest_local found.0).value behind.0 more other t b (ap (second found.0) (sym behind.1) ∙ is)

local-fault : {T K A B : Type 0} (first : Reader (List T) (K × List T) A) (second : A → Reader (List T) (K × List T) B)
    → IsLocal first → Leaves first → ((a : A) → IsLocal (second a)) → ((a : A) → Leaves (second a))
    → (front more other : List T) (t : T) (kind : K) (found : Result (A × List T) (K × List T)) → first (front ++ (t ∷ more)) ≡ found
    → (found >>= (λ f. second f.0 f.1)) ≡ Err (kind, t ∷ more) → in_turn first second (front ++ (t ∷ other)) ≡ Err (kind, t ∷ other)
local-fault first second local leaves rest_local rest_leaves front more other t kind (Err fault) was is =
    let same : fault ≡ (kind, t ∷ more) = cc in
    ap (λ r. r >>= (λ f. second f.0 f.1)) (local.fault front more other t kind (was ∙ ap Err same))
local-fault {T = T} first second local leaves rest_local rest_leaves front more other t kind (Ok found) was is =
    let before : (piece : List T) × (front ++ (t ∷ more) ≡ piece ++ found.1) = leaves.value (front ++ (t ∷ more)) found.1 found.0 was in
    let behind : (piece : List T) × (found.1 ≡ piece ++ (t ∷ more)) = (rest_leaves found.0).fault found.1 (t ∷ more) kind is in
    ap (λ r. r >>= (λ f. second f.0 f.1)) (value-kept first local front more other t found.0 before.0 behind.0 found.1 behind.1 before.1 was)
    ∙ (rest_local found.0).fault behind.0 more other t kind (ap (second found.0) (sym behind.1) ∙ is)

pub in_turn-local : {T K A B : Type 0} (first : Reader (List T) (K × List T) A) (second : A → Reader (List T) (K × List T) B)
    → IsLocal first → Leaves first → ((a : A) → IsLocal (second a)) → ((a : A) → Leaves (second a)) → IsLocal (in_turn first second)
in_turn-local first second local leaves rest_local rest_leaves = record {
  value = λ front more other t b is. local-value first second local leaves rest_local rest_leaves front more other t b (first (front ++ (t ∷ more))) refl is;
  fault = λ front more other t kind is. local-fault first second local leaves rest_local rest_leaves front more other t kind (first (front ++ (t ∷ more))) refl is;
}
