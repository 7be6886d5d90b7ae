-- Reading by parts: what a reader gives, one reader after another, and items one after another.
use Rattle.std.specs.Prelude.{◌≡◌, ℕ, zero, suc, ◌<◌, Bool, true, false, List, [], ◌∷◌, ◌++◌, Result, Ok, Err, if◌then◌else◌}

-- A reader gives a value and the state after it, or a fault. The state may be what is left of a list, or a place in it too.
abbrev pub Reader : Type 0 → Type 0 → Type 0 → Type 0
Reader S F A = S → Result (A × S) F

-- one step after another
infixl 10 ◌>>=◌
abbrev pub ◌>>=◌ : {F A B : Type 0} → Result A F → (A → Result B F) → Result B F
(Ok x) >>= f = f x
(Err fault) >>= f = Err fault

-- one reader after another, which is chosen by what the first one gave
abbrev pub in_turn : {S F A B : Type 0} → Reader S F A → (A → Reader S F B) → Reader S F B
in_turn first second s = first s >>= (λ found. second found.0 found.1)

-- ---- items one after another

-- The items that were read, and the state after them, or the fault that was met there.
pub record Run (A S F : Type 0) : Type 0 where
  pub items : List A
  pub end : Result S F

-- nothing more is read
abbrev pub ends_at : {A S F : Type 0} → Result S F → Run A S F
ends_at end = record { items = []; end = end }

-- these items were read before
abbrev pub behind_items : {A S F : Type 0} → List A → Run A S F → Run A S F
behind_items front run = record { items = front ++ run.items; end = run.end }

-- an item and what is read after it, or its fault
abbrev pub then_items : {A S F : Type 0} → Result (A × S) F → (S → Run A S F) → Run A S F
then_items (Ok found) next = behind_items (found.0 ∷ []) (next found.1)
then_items (Err fault) next = ends_at (Err fault)

-- at most so many items, as long as one begins
abbrev pub many_within : {A S F : Type 0} → ℕ → (S → Bool) → Reader S F A → S → Run A S F
many_within zero begins item s = ends_at (Ok s)
many_within (suc most) begins item s = if begins s then then_items (item s) (many_within most begins item) else ends_at (Ok s)

-- Items as long as one begins, up to the first fault. The size of a state bounds how many can come.
unfoldable pub many : {A S F : Type 0} → (S → ℕ) → (S → Bool) → Reader S F A → S → Run A S F
many size begins item s = many_within (size s) begins item s

-- all items and the state after them, or the first fault
abbrev pub with_items : {A S F : Type 0} → List A → Result S F → Result (List A × S) F
with_items items (Ok s) = Ok (items, s)
with_items items (Err fault) = Err fault

abbrev pub whole : {A S F : Type 0} → Run A S F → Result (List A × S) F
whole run = with_items run.items run.end

-- each item takes something, and none begins where nothing is left
pub record Shrinks {A S F : Type 0} (size : S → ℕ) (begins : S → Bool) (item : Reader S F A) : Type 0 where
  pub ends : (s : S) → size s ≡ 0 → begins s ≡ false
  pub smaller : (s behind : S) (a : A) → item s ≡ Ok (a, behind) → size behind < size s

-- these items lead from one state to another, each as the relation says
abbrev pub Items : {A S : Type 0} → (S → A → S → Type 0) → S → List A → S → Type 0
Items IsItem s [] last = s ≡ last
Items {S = S} IsItem s (a ∷ items) last = (next : S) × (IsItem s a next × Items IsItem next items last)

-- the items end at a state: none begins there, or one is at fault there
abbrev pub StopsAt : {A S F : Type 0} → (S → Bool) → Reader S F A → S → Result S F → Type 0
StopsAt begins item last (Ok s) = (s ≡ last) × (begins last ≡ false)
StopsAt begins item last (Err fault) = (begins last ≡ true) × (item last ≡ Err fault)

-- what was read: items that the relation holds of, one after another, up to where they end
pub record IsFound {A S F : Type 0} (IsItem : S → A → S → Type 0) (begins : S → Bool) (item : Reader S F A) (s : S) (run : Run A S F) : Type 0 where
  pub last : S
  pub items : Items IsItem s run.items last
  pub stops : StopsAt begins item last run.end

-- ---- what a reader doesn't look at

-- What a reader of a list gives depends on nothing after the element at which it stops or meets a fault: it is the
-- same for every list that goes on otherwise from there.
pub record IsLocal {T K A : Type 0} (reader : Reader (List T) (K × List T) A) : Type 0 where
  pub value : (front more other : List T) (t : T) (a : A) → reader (front ++ (t ∷ more)) ≡ Ok (a, t ∷ more) → reader (front ++ (t ∷ other)) ≡ Ok (a, t ∷ other)
  pub fault : (front more other : List T) (t : T) (kind : K) → reader (front ++ (t ∷ more)) ≡ Err (kind, t ∷ more) → reader (front ++ (t ∷ other)) ≡ Err (kind, t ∷ other)

-- whether an item begins depends on the first element alone
pub record ByFirst {T : Type 0} (begins : List T → Bool) : Type 0 where
  pub same : (t : T) (xs ys : List T) → begins (t ∷ xs) ≡ begins (t ∷ ys)

-- what a reader leaves, and where it meets a fault, is an end of what it was given
pub record Leaves {T K A : Type 0} (reader : Reader (List T) (K × List T) A) : Type 0 where
  pub value : (xs rest : List T) (a : A) → reader xs ≡ Ok (a, rest) → (piece : List T) × (xs ≡ piece ++ rest)
  pub fault : (xs rest : List T) (kind : K) → reader xs ≡ Err (kind, rest) → (piece : List T) × (xs ≡ piece ++ rest)
