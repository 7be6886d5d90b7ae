-- The grammar of selectors over lists of tokens.
use Rattle.std.specs.Prelude.{◌≡◌, ◌≢◌, ◌≤◌, ℕ, Bool, true, false, List, [], ◌∷◌, ◌++◌, length, drop, Option, Some, None}
use Rattle.std.specs.List.{list_all, list_any}
use Rattle.tx_lex.specs.declared.token.TokenKind.TheVariants.{Name, Hash, Mark}
use Rattle.tx_text.specs.Name.{IsName}
use Rattle.tx_lex.specs.Lexemes.{Lexeme, is_space, is_blank}
use Rattle.tx_select.specs.Pseudo.{pseudo_name}
use Rattle.tx_select.specs.declared.value.Part.{Part}
use Rattle.tx_select.specs.declared.value.Part.TheVariants.{Id, Class, Pseudo}
use Rattle.tx_select.specs.declared.value.Compound.{Compound}

-- spaces and comments, or none
abbrev pub AreBlank : List Lexeme → Type 0
AreBlank ts = list_all (λ t. is_blank t.kind) ts ≡ true

abbrev pub has_space : List Lexeme → Bool
has_space ts = list_any (λ t. is_space t.kind) ts

-- ---- a part: `#id`, `.class` or `:pseudo`

-- the name that stands after the `#` is one of 1 to 64 bytes, with a letter or `_` first
abbrev pub IsPart : List Lexeme → Part → Type 0
IsPart (t ∷ []) (Id name) = (t.kind ≡ Hash) × (drop 1 t.bytes ≡ name) × IsName name
IsPart (m ∷ t ∷ []) (Class name) = (m.kind ≡ Mark 46) × (t.kind ≡ Name) × (t.bytes ≡ name) × IsName name
IsPart (m ∷ t ∷ []) (Pseudo pseudo) = (m.kind ≡ Mark 58) × (t.kind ≡ Name) × (t.bytes ≡ pseudo_name pseudo)
IsPart _ _ = ⊥

-- parts directly after each other
abbrev pub AreParts : List Lexeme → List Part → Type 0
AreParts ts [] = ts ≡ []
AreParts ts (part ∷ parts) = (a b : List Lexeme) × (ts ≡ a ++ b) × IsPart a part × AreParts b parts

-- ---- a compound: a name or `*`, and parts; or parts alone, one or more

abbrev pub IsKind : List Lexeme → Option (List ℕ) → List Part → Type 0
IsKind (t ∷ []) (Some name) parts = (t.kind ≡ Name) × (t.bytes ≡ name) × IsName name
IsKind (t ∷ []) None parts = t.kind ≡ Mark 42
IsKind [] None parts = parts ≢ []
IsKind _ _ parts = ⊥

abbrev pub IsCompound : List Lexeme → Compound → Type 0
IsCompound ts compound = (a b : List Lexeme) × (ts ≡ a ++ b) × IsKind a compound.kind compound.parts × AreParts b compound.parts

-- ---- compounds and what joins them

-- `>` with spaces and comments round it, or a space with or without spaces and comments round it
abbrev pub IsCombinator : List Lexeme → Bool → Type 0
IsCombinator ts true = (a b : List Lexeme) × (t : Lexeme) × (ts ≡ a ++ (t ∷ b)) × AreBlank a × (t.kind ≡ Mark 62) × AreBlank b
IsCombinator ts false = AreBlank ts × (has_space ts ≡ true)

-- one or more, each joined to the one before as it says
abbrev pub AreCompounds : List Lexeme → List Compound → Type 0
AreCompounds ts [] = ⊥
AreCompounds ts (compound ∷ []) = IsCompound ts compound
AreCompounds ts (compound ∷ next ∷ compounds) =
    (a g b : List Lexeme) × (ts ≡ a ++ (g ++ b)) × IsCompound a compound × IsCombinator g next.child × AreCompounds b (next ∷ compounds)

abbrev pub child_of_first : List Compound → Bool
child_of_first [] = false
child_of_first (compound ∷ compounds) = compound.child

-- at most 16, of which the first is joined to none
pub record IsSelector (ts : List Lexeme) (compounds : List Compound) : Type 0 where
  pub joined : AreCompounds ts compounds
  pub first : child_of_first compounds ≡ false
  pub few : length compounds ≤ 16

-- a selector with spaces and comments round it
pub record IsWhole (ts : List Lexeme) (compounds : List Compound) : Type 0 where
  pub before : List Lexeme
  pub middle : List Lexeme
  pub behind : List Lexeme
  pub parts : ts ≡ before ++ (middle ++ behind)
  pub blank_before : AreBlank before
  pub selector : IsSelector middle compounds
  pub blank_behind : AreBlank behind
