-- The cells that are the same for every text, and the cell of a cluster that is fit to be shown.
use Rattle.std.proofs.Common.{◌≡◌, ◌+◌, ◌-◌, ◌<◌, ◌≤◌, ℕ, List, [], ◌∷◌, ◌++◌, length, take, drop, replicate, Bool, true, false, ◌||◌, if◌then◌else◌, refl, sym, arith, rules, ap, subst, ◌∙◌, inl, inr, ◌⊎◌, length-append}
use Rattle.std.proofs.lemmas.Bool.{eqb-false, ltb-false, or_parts}
use Rattle.std.proofs.Math.Seq.{drop-append_seam, take-append_seam}
use Rattle.std.proofs.lemmas.List.{drop-replicate, length-replicate, append-nil}
use Rattle.std.proofs.lemmas.Str.{is_utf8-from_IsUtf8, IsUtf8-from_is_utf8}
use Rattle.std.specs.List.{concat}
use Rattle.std.specs.Prelude.{Option, Some, None, nat_lt, ◌==◌}
use Rattle.std.specs.Str.{IsUtf8, is_utf8, chars}
use Rattle.unicode_segmentation.specs.Grapheme.{graphemes, is_grapheme_break}
use Rattle.unicode_segmentation.proofs.Computing.{unicode_segmentation}
use Rattle.unicode_segmentation.proofs.SegmentsLemmas.{concat-segments}
use Rattle.unicode_width.specs.Width.{str_width}
use Rattle.unicode_width.proofs.Computing.{unicode_width}
use Rattle.tx_cell.specs.Cell.{CellValue, IsCell, IsOfItsText, IsStored, most_bytes, shown, blank, replacement, is_tab, is_unfit, cell_by_width, cluster_cell, cell_of}
use Rattle.tx_cell.specs.Pen.{HasByteChannels}
use Rattle.tx_cell.specs.declared.pen.Pen.{Pen}

pub IsOfItsText-replacement : (pen : Pen) → HasByteChannels pen → IsOfItsText (replacement pen)
unfolding cell_of cluster_cell is_utf8 unicode_segmentation unicode_width
IsOfItsText-replacement pen channels = record { channels = channels; utf8 = refl; own = refl }

choice : (tab unfit none replaced : Bool) (b r s cell : CellValue)
    → ◌≡◌ {A = Option CellValue} (if tab then Some b else if unfit then Some r else if none then None else if replaced then Some r else Some s) (Some cell)
    → (cell ≡ b) ⊎ ((cell ≡ r) ⊎ ((tab ≡ false) × (unfit ≡ false) × (none ≡ false) × (replaced ≡ false) × (cell ≡ s)))
choice true unfit none replaced b r s cell is = inl cc
choice false true none replaced b r s cell is = inr (inl cc)
choice false false true replaced b r s cell is = cc
choice false false false true b r s cell is = inr (inl cc)
choice false false false false b r s cell is = inr (inr (refl, refl, refl, refl, cc))

not_zero : (n : ℕ) → (n == 0) ≡ false → 0 < n
not_zero n differs = let other : n ≡ 0 → ⊥ = eqb-false n 0 differs in omega arith

-- what is known of a cell that shows a cluster
pub record ShowsCluster (cluster : List ℕ) (pen : Pen) (cell : CellValue) : Type 0 where
  pub no_tab : is_tab cluster ≡ false
  pub fit : is_unfit (chars cluster) ≡ false
  pub some : 0 < str_width false (chars cluster)
  pub few : str_width false (chars cluster) ≤ 2
  pub fits : length cluster ≤ most_bytes
  pub is : cell ≡ shown cluster (str_width false (chars cluster)) pen

-- a cluster's cell is a blank, U+FFFD or shows the cluster
pub cluster_cell-cases : (cluster : List ℕ) (pen : Pen) (cell : CellValue) → cluster_cell cluster pen ≡ Some cell
    → (cell ≡ blank pen) ⊎ ((cell ≡ replacement pen) ⊎ ShowsCluster cluster pen cell)
unfolding cluster_cell
cluster_cell-cases cluster pen cell is =
    let width = str_width false (chars cluster) in
    elim (choice (is_tab cluster) (is_unfit (chars cluster)) (width == 0) (nat_lt 2 width || nat_lt most_bytes (length cluster)) (blank pen) (replacement pen) (shown cluster width pen) cell is) [
      | inl blank_is ↦ inl blank_is
      | inr others ↦ inr (elim others [
        | inl replacement_is ↦ inl replacement_is
        | inr shows ↦ inr (record {
          no_tab = shows.0;
          fit = shows.1;
          some = not_zero _ shows.2;
          few = ltb-false 2 width (or_parts _ _ shows.3).0;
          fits = ltb-false most_bytes (length cluster) (or_parts _ _ shows.3).1;
          is = shows.4;
        })
      ])
    ]

-- cells with the same parts are the same
pub same_cell : (a b : CellValue) → a.text ≡ b.text → a.width ≡ b.width → a.tail ≡ b.tail → a.pen ≡ b.pen → a ≡ b
same_cell a b text width tail pen i = record { text = text i; width = width i; tail = tail i; pen = pen i }

cell_by_width-fit : (cluster : List ℕ) (width : ℕ) (pen : Pen) → 0 < width → width ≤ 2 → length cluster ≤ most_bytes
    → cell_by_width cluster width pen ≡ Some (shown cluster width pen)
cell_by_width-fit cluster width pen some few fits = search rules

-- a cluster that is fit to be shown makes the cell of its text
pub IsOfItsText-fit : (cluster : List ℕ) (width : ℕ) (pen : Pen) → HasByteChannels pen → IsUtf8 cluster → graphemes true cluster ≡ cluster ∷ []
    → is_tab cluster ≡ false → is_unfit (chars cluster) ≡ false → width ≡ str_width false (chars cluster)
    → 0 < width → width ≤ 2 → length cluster ≤ most_bytes → IsOfItsText (shown cluster width pen)
unfolding cell_of cluster_cell
IsOfItsText-fit cluster width pen channels utf8 single no_tab fit is some few fits = record {
  channels = channels;
  utf8 = is_utf8-from_IsUtf8 cluster utf8;
  own = rw (single, no_tab, fit, ← is) (cell_by_width-fit cluster width pen some few fits);
}

-- a text padded with zeros is kept whole
pub IsStored-padded : (text : List ℕ) (width : ℕ) (pen : Pen) → length text ≤ most_bytes → 0 < width → IsOfItsText (shown text width pen)
    → let bytes = text ++ drop (length text) (replicate most_bytes 0) in
    IsStored bytes (length text) (record { text = take (length text) bytes; width = width; tail = width == 0; pen = pen })
IsStored-padded text width pen fits visible own =
    let zeros : List ℕ = drop (length text) (replicate most_bytes 0) in
    let spare : zeros ≡ replicate (most_bytes - length text) 0 = drop-replicate (length text) most_bytes 0 in
    let no_tail : (width == 0) ≡ false = search rules in
    record {
      fits = fits;
      whole = length-append text zeros ∙ ap (λ s. length text + length s) spare ∙ ap (λ n. length text + n) (length-replicate (most_bytes - length text) 0) ∙ omega arith;
      spare = drop-append_seam text zeros ∙ spare;
      seen = record { channels = own.channels; tail = λ is_tail. cc; text = λ _. rw (take-append_seam text zeros, no_tail) own };
    }

-- a text of one cluster is that cluster
pub same_text : (text cluster : List ℕ) → IsUtf8 text → graphemes true text ≡ cluster ∷ [] → text ≡ cluster
same_text text cluster utf8 single = sym (concat-segments (is_grapheme_break true) text utf8) ∙ ap concat single ∙ append-nil cluster

-- a text's one cluster is one by itself
pub single_from_clusters : (text cluster : List ℕ) → IsUtf8 text → graphemes true text ≡ cluster ∷ [] → graphemes true cluster ≡ cluster ∷ []
single_from_clusters text cluster utf8 single =
    let same = same_text text cluster utf8 single in
    subst (λ t. graphemes true t ≡ t ∷ []) same (single ∙ ap (λ t. t ∷ []) (sym same))

IsUtf8-nil : IsUtf8 []
unfolding is_utf8 chars
IsUtf8-nil = IsUtf8-from_is_utf8 [] refl

IsUtf8-text-by : (cell : CellValue) (is_tail : Bool) → cell.tail ≡ is_tail → IsCell cell → IsUtf8 cell.text
IsUtf8-text-by cell true tail known = rw (known.tail tail) IsUtf8-nil
IsUtf8-text-by cell false text known = IsUtf8-from_is_utf8 cell.text (known.text text).utf8

-- the bytes of a cell are a text
pub IsUtf8-text : (cell : CellValue) → IsCell cell → IsUtf8 cell.text
IsUtf8-text cell known = IsUtf8-text-by cell cell.tail refl known
