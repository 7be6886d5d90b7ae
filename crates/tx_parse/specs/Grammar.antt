-- The grammar of stylesheets and of inline texts, by its productions.
use Rattle.std.specs.Prelude.{◌≡◌, ◌≢◌, ◌⊎◌, ℕ, ◌+◌, ◌≤◌, min, Bool, true, false, List, [], ◌∷◌, ◌++◌, length, drop, Some, Ok, codes}
use Rattle.std.specs.List.{list_all}
use Rattle.tx_read.specs.Reading.{Items}
use Rattle.tx_lex.specs.Blanks.{without_blanks}
use Rattle.tx_lex.specs.Lexemes.{Lexeme}
use Rattle.tx_lex.specs.declared.token.TokenKind.TheVariants.{Name, Variable, Mark}
use Rattle.tx_text.specs.Name.{IsName}
use Rattle.tx_select.specs.Grammar.{AreBlank, IsWhole}
use Rattle.tx_select.specs.SelectorValue.{SelectorValue}
use Rattle.tx_value.specs.Declarations.{Pair, declaration}
use Rattle.tx_parse.specs.Variables.{Defined, is_value, stand_for, with_definition}
use Rattle.tx_parse.specs.Values.{DeclarationValue, RuleValue, important_pairs}

-- ---- values

-- One or more, at most 64 when each variable is replaced by the tokens that it stands for. Spaces and comments stand anywhere.
pub record IsValues (defined : Defined) (ts stand : List Lexeme) : Type 0 where
  pub values : list_all (λ t. is_value t.kind) (without_blanks ts) ≡ true
  pub replaced : stand_for defined (without_blanks ts) ≡ Some stand
  pub some : stand ≢ []
  pub few : length stand ≤ 64

-- ---- declarations

-- nothing, or `!` and `important`
abbrev pub IsImportance : List Lexeme → Bool → Type 0
IsImportance ts false = ts ≡ []
IsImportance ts true =
    (mark word : Lexeme) × (gap behind : List Lexeme) × (ts ≡ mark ∷ (gap ++ (word ∷ behind)))
    × (mark.kind ≡ Mark 33) × AreBlank gap × (word.kind ≡ Name) × (word.bytes ≡ codes "important") × AreBlank behind

-- a name, a colon, and values that the name of the property has
pub record IsDeclaration (defined : Defined) (ts : List Lexeme) (declarations : List DeclarationValue) : Type 0 where
  pub name : Lexeme
  pub gap : List Lexeme
  pub colon : Lexeme
  pub values : List Lexeme
  pub ending : List Lexeme
  pub parts : ts ≡ name ∷ (gap ++ (colon ∷ (values ++ ending)))
  pub is_name : name.kind ≡ Name
  pub blank : AreBlank gap
  pub is_colon : colon.kind ≡ Mark 58
  pub stand : List Lexeme
  pub are_values : IsValues defined values stand
  pub important : Bool
  pub importance : IsImportance ending important
  pub pairs : List Pair
  pub valued : declaration name.bytes stand ≡ Ok pairs
  pub stands : declarations ≡ important_pairs important pairs

-- ---- declarations one after another

-- a count with so many more; it saturates at 4,294,967,295
abbrev pub counted : ℕ → ℕ → ℕ
counted count more = min (count + more) 4294967295

-- those of a block, and how many were written: one that stands for several properties is written once
pub record Body : Type 0 where
  pub declarations : List DeclarationValue
  pub written : ℕ

abbrev pub nothing : Body
nothing = record { declarations = []; written = 0 }

abbrev pub one : List DeclarationValue → Body
one declarations = record { declarations = declarations; written = 1 }

abbrev pub joined : List Body → Body
joined [] = nothing
joined (body ∷ bodies) = record { declarations = body.declarations ++ (joined bodies).declarations; written = counted body.written (joined bodies).written }

-- between two `;`: spaces and comments, with a declaration or without
abbrev pub IsPiece : Defined → List Lexeme → Body → Type 0
IsPiece defined ts body =
    (AreBlank ts × (body ≡ nothing))
    ⊎ ((before rest : List Lexeme) × (declarations : List DeclarationValue) × (ts ≡ before ++ rest) × AreBlank before × IsDeclaration defined rest declarations × (body ≡ one declarations))

-- the same with its `;`
abbrev pub IsEnded : Defined → List Lexeme → Body → List Lexeme → Type 0
IsEnded defined ts body rest = (piece : List Lexeme) × (t : Lexeme) × (ts ≡ piece ++ (t ∷ rest)) × (t.kind ≡ Mark 59) × IsPiece defined piece body

-- pieces that are ended by `;`, and a last one that needn't be
pub record IsBody (defined : Defined) (ts : List Lexeme) (body : Body) : Type 0 where
  pub ended : List Body
  pub last : List Lexeme
  pub final : Body
  pub items : Items (IsEnded defined) ts ended last
  pub piece : IsPiece defined last final
  pub sum : body ≡ joined (ended ++ (final ∷ []))

-- ---- rules

-- one or more selectors, with a comma between two
abbrev pub AreSelectors : List Lexeme → List SelectorValue → Type 0
AreSelectors ts [] = ⊥
AreSelectors ts (selector ∷ []) = IsWhole ts selector.compounds
AreSelectors ts (selector ∷ next ∷ selectors) =
    (front rest : List Lexeme) × (t : Lexeme) × (ts ≡ front ++ (t ∷ rest)) × (t.kind ≡ Mark 44) × IsWhole front selector.compounds × AreSelectors rest (next ∷ selectors)

-- at most 64 selectors, and declarations in braces
pub record IsRule (defined : Defined) (ts : List Lexeme) (rule : RuleValue) (written : ℕ) : Type 0 where
  pub head : List Lexeme
  pub opening : Lexeme
  pub block : List Lexeme
  pub closing : Lexeme
  pub parts : ts ≡ head ++ (opening ∷ (block ++ (closing ∷ [])))
  pub selectors : AreSelectors head rule.selectors
  pub few : length rule.selectors ≤ 64
  pub is_open : opening.kind ≡ Mark 123
  pub body : IsBody defined block (record { declarations = rule.declarations; written = written })
  pub is_close : closing.kind ≡ Mark 125

-- ---- variables

-- a variable of at most 64 bytes, a colon, values and a `;`
pub record IsVariable (defined : Defined) (ts : List Lexeme) (name : List ℕ) (stand : List Lexeme) : Type 0 where
  pub token : Lexeme
  pub gap : List Lexeme
  pub colon : Lexeme
  pub values : List Lexeme
  pub end : Lexeme
  pub parts : ts ≡ token ∷ (gap ++ (colon ∷ (values ++ (end ∷ []))))
  pub is_variable : token.kind ≡ Variable
  pub named : drop 1 token.bytes ≡ name
  pub is_name : IsName name
  pub blank : AreBlank gap
  pub is_colon : colon.kind ≡ Mark 58
  pub are_values : IsValues defined values stand
  pub is_end : end.kind ≡ Mark 59

-- ---- sheets

-- what a sheet has up to a place: the variables, the rules, how many variables were defined, and how many declarations written
pub record Found : Type 0 where
  pub defined : Defined
  pub rules : List RuleValue
  pub variables : ℕ
  pub written : ℕ

abbrev pub nothing_found : Found
nothing_found = record { defined = []; rules = []; variables = 0; written = 0 }

abbrev pub with_variable : List ℕ → List Lexeme → Found → Found
with_variable name stand found = record found { defined = with_definition name stand found.defined; variables = counted found.variables 1 }

abbrev pub with_rule : RuleValue → ℕ → Found → Found
with_rule rule written found = record found { rules = found.rules ++ (rule ∷ []); written = counted found.written written }

-- a variable or a rule, with spaces and comments before it, and what the sheet has after it
pub record IsPart (here : Found × List Lexeme) (piece : List Lexeme) (next : Found × List Lexeme) : Type 0 where
  pub before : List Lexeme
  pub part : List Lexeme
  pub parts : piece ≡ before ++ part
  pub blank : AreBlank before
  pub rest : here.1 ≡ piece ++ next.1
  pub found :
      ((name : List ℕ) × (stand : List Lexeme) × IsVariable here.0.defined part name stand × (next.0 ≡ with_variable name stand here.0))
      ⊎ ((rule : RuleValue) × (written : ℕ) × IsRule here.0.defined part rule written × (next.0 ≡ with_rule rule written here.0))

-- variables and rules one after another, at most 10,000 rules
pub record IsSheet (ts : List Lexeme) (found : Found) : Type 0 where
  pub pieces : List (List Lexeme)
  pub behind : List Lexeme
  pub parts : Items IsPart (nothing_found, ts) pieces (found, behind)
  pub blank : AreBlank behind
  pub few : length found.rules ≤ 10000
