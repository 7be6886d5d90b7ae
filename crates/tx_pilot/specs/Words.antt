-- The words that may stand after the first one in a line of a script, and those that are at fault there.
use Rattle.std.specs.Prelude.{◌≡◌, ◌≢◌, ◌≤◌, ℕ, true, List, [], ◌∷◌, ◌++◌, codes}
use Rattle.std.specs.List.{list_all}
use Rattle.std.specs.Str.{is_utf8}
use Rattle.tx_read.specs.Number.{is_number, value}
use Rattle.tx_text.specs.Name.{IsName}
use Rattle.tx_tree.specs.declared.row.NewRow.{NewRow}
use Rattle.tx_tree_file.specs.Words.{no_blank, Stops, IsQuoted, IsNewRow}
use Rattle.tx_select.specs.SelectorValue.{SelectorValue}
use Rattle.tx_select.specs.Texts.{IsSelectorText}
use Rattle.tx_parse.specs.Grammar.{Body}
use Rattle.tx_parse.specs.Texts.{IsInlineText}

-- ---- good words

-- a number in plain digits, leading zeros allowed, in this range
pub record IsNumber (least most : ℕ) (digits : List ℕ) (n : ℕ) : Type 0 where
  pub plain : is_number digits ≡ true
  pub is : value digits ≡ n
  pub above : least ≤ n
  pub below : n ≤ most

-- a text in quotes, `STRING`
pub record IsString (bytes text : List ℕ) : Type 0 where
  pub quoted : IsQuoted bytes text
  pub utf8 : is_utf8 text ≡ true

-- a text in quotes that is a selector
pub record IsTarget (bytes : List ℕ) (target : SelectorValue) : Type 0 where
  pub text : List ℕ
  pub string : IsString bytes text
  pub selector : IsSelectorText text target

-- a name with a mark before it
pub record IsMarked (mark : ℕ) (bytes name : List ℕ) : Type 0 where
  pub is : bytes ≡ mark ∷ name
  pub named : IsName name

-- declarations as those of an inline text
abbrev pub AreDeclarations : List ℕ → Type 0
AreDeclarations text = (is_utf8 text ≡ true) × ((body : Body) × IsInlineText text body)

-- a text in braces, of which the closing one is the last byte
abbrev pub in_braces : List ℕ → List ℕ
in_braces text = codes "{" ++ (text ++ codes "}")

pub record IsInline (bytes text : List ℕ) : Type 0 where
  pub is : bytes ≡ in_braces text
  pub declarations : AreDeclarations text

-- a row as in a tree file, of which the inline text is one too
pub record IsRow (bytes : List ℕ) (row : NewRow) : Type 0 where
  pub spelled : IsNewRow bytes row
  pub declarations : AreDeclarations row.inline

-- ---- words at fault

-- a word stands here: one byte or more, up to a blank or the end
pub record IsWord (bytes word rest : List ℕ) : Type 0 where
  pub text : bytes ≡ word ++ rest
  pub some : word ≢ []
  pub whole : list_all no_blank word ≡ true
  pub ends : Stops rest

-- a word that is none of this sort: no key, no number, or none in its range
pub record NoWord {A : Type 0} (Is : List ℕ → A → Type 0) (bytes : List ℕ) : Type 0 where
  pub word : List ℕ
  pub rest : List ℕ
  pub stands : IsWord bytes word rest
  pub none : (a : A) → Is word a → ⊥

-- a text in quotes stands here, with whatever after it, and is no selector
pub record NoSelector (bytes : List ℕ) : Type 0 where
  pub string : List ℕ
  pub text : List ℕ
  pub rest : List ℕ
  pub stands : bytes ≡ string ++ rest
  pub spelled : IsString string text
  pub none : (selector : SelectorValue) → IsSelectorText text selector → ⊥

-- a text in braces stands here up to the end, and has something else than declarations
pub record NoInline (bytes : List ℕ) : Type 0 where
  pub text : List ℕ
  pub stands : bytes ≡ in_braces text
  pub none : AreDeclarations text → ⊥

-- so has the inline text of the row that stands here
pub record NoRowInline (bytes : List ℕ) : Type 0 where
  pub row : NewRow
  pub stands : IsNewRow bytes row
  pub none : AreDeclarations row.inline → ⊥
