-- Gathering the children that take part.
use Rattle.std.proofs.Common.{◌≡◌, ℕ, suc, ◌<◌, ◌≤◌, true, false, List, [], ◌∷◌, ◌++◌, length, map, drop, get_or, ◌∙◌, refl, sym, ap, append_assoc, append-nil, drop-cons, arith}
use Rattle.std.proofs.Math.ListN.{drop_of_length-le}
use Rattle.std.proofs.lemmas.Bool.{ltb-true}
use Rattle.std.proofs.lemmas.List.{map-append}
use Rattle.std.proofs.lemmas.List.Elements.{All-append, All-cons, All-nil}
use Rattle.std.specs.Prelude.{nat_lt, All}
use Rattle.tx_geom.specs.declared.places.Size.{Size}
use Rattle.tx_layout.specs.declared.styles.BoxStyle.{BoxStyle}
use Rattle.tx_look.specs.Boxes.{box_style}
use Rattle.tx_sizes.specs.Counts.{AreChildren}
use Rattle.tx_sizes.specs.Forest.{Styled, Forest, Empty, Grown, depth, under, behind, forest}
use Rattle.tx_sizes.specs.Measures.{Measure, Pictures, boxes, first_measure, is_taking_part, measures, row_measure}
use Rattle.tx_sizes.proofs.Counting.{Child}
use Rattle.tx_sizes.proofs.lemmas.RowsBelow.{behind-count}
use Rattle.tx_value.specs.declared.value.Value.{Value}

-- the rows beside each other from a place on
abbrev pub from : ℕ → List Styled → ℕ → Forest
from d rows at = under d (forest (drop at rows))

-- what a row at a place measures
abbrev pub measure_at : Pictures → Size → List Styled → ℕ → Measure
measure_at pictures screen rows at = first_measure pictures screen (forest (drop at rows))

-- the first of them is the row at that place, and the others begin at the next one
tops : {d at next : ℕ} {rows : List Styled} {row : Styled} (child : Child d rows at row next)
    → from d rows at ≡ Grown row (under (depth row) (forest child.rest)) (from d rows next)
unfolding forest
tops {d} {at} {next} {rows} {row} child =
    let less : d < depth row = ltb-true d (depth row) child.deep in
    let others : under d (behind (depth row) (forest child.rest)) ≡ from d rows next =
    ap (under d) (behind-count (depth row) child.rest) ∙ ap (λ rows. under d (forest rows)) (sym child.behind) in
    ap (λ rows. under d (forest rows)) child.here ∙ rw child.deep (ap (Grown row (under (depth row) (forest child.rest))) others)

first : {d at next : ℕ} {rows : List Styled} {row : Styled} (child : Child d rows at row next) (pictures : Pictures) (screen : Size)
    → measure_at pictures screen rows at ≡ row_measure pictures screen row (boxes row.style (under (depth row) (forest child.rest))) (measures pictures screen (under (depth row) (forest child.rest)))
unfolding forest
first {d} {at} {next} {rows} {row} child pictures screen = ap (λ rows. first_measure pictures screen (forest rows)) child.here

-- what is gathered up to a place, with what is found from there on
pub record Gathered (container : List Value) (d : ℕ) (rows : List Styled) (at : ℕ) (styles : List BoxStyle) (starts : List ℕ) : Type 0 where
  pub boxes : styles ++ boxes container (from d rows at) ≡ boxes container (from d rows 0)
  pub measures : (pictures : Pictures) (screen : Size) → map (measure_at pictures screen rows) starts ++ measures pictures screen (from d rows at) ≡ measures pictures screen (from d rows 0)
  pub within : All (λ start. start < length rows) starts
  pub reached : at ≤ length rows

pub gathered_none : (container : List Value) (d : ℕ) (rows : List Styled) → Gathered container d rows 0 [] []
gathered_none container d rows = record { boxes = refl; measures = λ pictures screen. refl; within = All-nil _; reached = omega arith }

pub gathered_one : {container : List Value} {d at next : ℕ} {rows : List Styled} {row : Styled} {styles : List BoxStyle} {starts : List ℕ}
    → Gathered container d rows at styles starts → Child d rows at row next → at < length rows → is_taking_part row ≡ true
    → Gathered container d rows next (styles ++ box_style container row.style ∷ []) (starts ++ at ∷ [])
unfolding measures
gathered_one {container} {d} {at} {next} {rows} {row} {styles} {starts} g child h part =
    let box = box_style container row.style in
    let here : boxes container (from d rows at) ≡ box ∷ boxes container (from d rows next) = ap (boxes container) (tops child) ∙ rw part refl in
    let measured : (pictures : Pictures) (screen : Size) → measures pictures screen (from d rows at) ≡ measure_at pictures screen rows at ∷ measures pictures screen (from d rows next) =
    λ pictures screen. ap (measures pictures screen) (tops child) ∙ rw (part, first child pictures screen) refl in
    record {
      boxes = append_assoc styles (box ∷ []) (boxes container (from d rows next)) ∙ ap (λ bs. styles ++ bs) (sym here) ∙ g.boxes;
      measures = λ pictures screen.
          ap (λ ms. ms ++ measures pictures screen (from d rows next)) (map-append (measure_at pictures screen rows) starts (at ∷ []))
          ∙ append_assoc (map (measure_at pictures screen rows) starts) (measure_at pictures screen rows at ∷ []) (measures pictures screen (from d rows next))
          ∙ ap (λ ms. map (measure_at pictures screen rows) starts ++ ms) (sym (measured pictures screen)) ∙ g.measures pictures screen;
      within = All-append (λ start. start < length rows) starts (at ∷ []) g.within (All-cons (λ start. start < length rows) at [] h (All-nil _));
      reached = child.within;
    }

pub gathered_out : {container : List Value} {d at next : ℕ} {rows : List Styled} {row : Styled} {styles : List BoxStyle} {starts : List ℕ}
    → Gathered container d rows at styles starts → Child d rows at row next → is_taking_part row ≡ false → Gathered container d rows next styles starts
unfolding measures
gathered_out {container} {d} {at} {next} {rows} {row} {styles} {starts} g child part =
    let here : boxes container (from d rows at) ≡ boxes container (from d rows next) = ap (boxes container) (tops child) ∙ rw part refl in
    let measured : (pictures : Pictures) (screen : Size) → measures pictures screen (from d rows at) ≡ measures pictures screen (from d rows next) =
    λ pictures screen. ap (measures pictures screen) (tops child) ∙ rw part refl in
    record {
      boxes = ap (λ bs. styles ++ bs) (sym here) ∙ g.boxes;
      measures = λ pictures screen. ap (λ ms. map (measure_at pictures screen rows) starts ++ ms) (sym (measured pictures screen)) ∙ g.measures pictures screen;
      within = g.within;
      reached = child.within;
    }

ended : {container : List Value} {d at : ℕ} {rows : List Styled} {styles : List BoxStyle} {starts : List ℕ}
    → Gathered container d rows at styles starts → from d rows at ≡ Empty → AreChildren container d rows styles starts
unfolding measures
ended {container} {d} {at} {rows} {styles} {starts} g none =
    record {
      boxes = sym (append-nil styles) ∙ ap (λ f. styles ++ boxes container f) (sym none) ∙ g.boxes;
      measures = λ pictures screen.
          sym (append-nil (map (measure_at pictures screen rows) starts)) ∙ ap (λ f. map (measure_at pictures screen rows) starts ++ measures pictures screen f) (sym none) ∙ g.measures pictures screen;
      within = g.within;
    }

pub gathered_here : {container : List Value} {d at : ℕ} {rows : List Styled} {styles : List BoxStyle} {starts : List ℕ} (row : Styled)
    → Gathered container d rows at styles starts → at < length rows → row ≡ get_or rows at row → nat_lt d (depth row) ≡ false → AreChildren container d rows styles starts
unfolding forest
gathered_here {container} {d} {at} {rows} row g h is shallow =
    let here : drop at rows ≡ row ∷ drop (suc at) rows = drop-cons rows at row h ∙ ap (λ r. r ∷ drop (suc at) rows) (sym is) in
    ended g (ap (λ rows. under d (forest rows)) here ∙ rw shallow refl)

pub gathered_all : {container : List Value} {d at : ℕ} {rows : List Styled} {styles : List BoxStyle} {starts : List ℕ}
    → Gathered container d rows at styles starts → length rows ≤ at → AreChildren container d rows styles starts
unfolding forest
gathered_all {container} {d} {at} {rows} g h = ended g (ap (λ rows. under d (forest rows)) (drop_of_length-le rows h))
