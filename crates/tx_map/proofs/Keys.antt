-- The order of keys.
use Rattle.std.proofs.Common.{◌≡◌, ℕ, ◌+◌, ◌<◌, ◌≤◌, ◌==◌, nat_lt, Bool, true, false, cond, List, [], ◌∷◌, ◌++◌, length, drop, Option, Some, None, Ok, Err, ◌∙◌, refl, sym, ap, subst, inl, inr, eq-eqb, eqb-true, length-append, arith}
use Rattle.std.proofs.lemmas.Bool.{lt-ltb}
use Rattle.std.proofs.lemmas.List.{append-nil, append_assoc, append_cancel_left}
use Rattle.std.proofs.lemmas.List.Elements.{All-append, All-cons, All-head, All-nil, All-tail, All-weaker}
use Rattle.std.specs.Prelude.{All}
use Rattle.tx_cascade.specs.Key.{exceeds}
use Rattle.tx_geom.specs.declared.places.Region.{Region}
use Rattle.tx_layout.specs.declared.styles.BoxStyle.{BoxStyle}
use Rattle.tx_look.specs.Layers.{layer_number}
use Rattle.tx_map.specs.Keys.{AreApart, IsBefore, IsGreaterOr, KeysDiffer, KeysInOrder, ScreenAloneIsLowest, StandsBefore}
use Rattle.tx_map.specs.LayoutMap.{Mapped, Place, Container, child_key, child_place, container, docked_number, entries, entries_from, entries_if, entry_at, first_region, row_entries, screen_place}
use Rattle.tx_map.specs.Scene.{Scene, rows_of}
use Rattle.tx_map.specs.Subtrees.{rows_below, subtree_entries}
use Rattle.tx_map.specs.declared.entry.Entry.{Entry}
use Rattle.tx_map.proofs.Wholes.{is_mapped}
use Rattle.tx_read.specs.Reading.{◌>>=◌}
use Rattle.tx_sizes.specs.Forest.{Styled, Forest, Empty, Grown}
use Rattle.tx_sizes.specs.Measures.{Measure, boxes, is_taking_part, measures}
use Rattle.tx_value.specs.StyleReads.{dock}

-- ---- how keys begin

-- a key is this one, or goes on after it
record Begins (front : List ℕ) (e : Entry) : Type 0 where
  pub rest : List ℕ
  pub is : e.key ≡ front ++ rest

-- a key is that of a child at this place or goes on after it
record StandsAt (front : List ℕ) (place : ℕ) (e : Entry) : Type 0 where
  pub layer : ℕ
  pub docked : ℕ
  pub rest : List ℕ
  pub is : e.key ≡ front ++ layer ∷ (docked ∷ (place ∷ rest))

-- the same from this place on
record StandsFrom (front : List ℕ) (place : ℕ) (e : Entry) : Type 0 where
  pub at : ℕ
  pub from : place ≤ at
  pub stands : StandsAt front at e

from_here : (front : List ℕ) (place : ℕ) (e : Entry) → StandsAt front place e → StandsFrom front place e
from_here front place e s = record { at = place; from = omega arith; stands = s }

from_next : (front : List ℕ) (place : ℕ) (e : Entry) → StandsFrom front (place + 1) e → StandsFrom front place e
from_next front place e s = record { at = s.at; from = omega (arith, s.from); stands = s.stands }

goes_on : (front : List ℕ) (place : ℕ) (e : Entry) → StandsFrom front place e → Begins front e
goes_on front place e s = record { rest = s.stands.layer ∷ (s.stands.docked ∷ (s.at ∷ s.stands.rest)); is = s.stands.is }

child_stands : (above : Container) (row : Styled) (place : ℕ) (e : Entry) → Begins (child_key above row place) e → StandsAt above.key place e
child_stands above row place e b = record {
  layer = layer_number above.style row.style;
  docked = docked_number (dock row.style);
  rest = b.rest;
  is = b.is ∙ append_assoc above.key (layer_number above.style row.style ∷ (docked_number (dock row.style) ∷ (place ∷ []))) b.rest;
}

-- ---- what holds of all entries

abbrev Each : (Entry → Type 0) → Mapped (List Entry) → Type 0
Each P r = (es : List Entry) → r ≡ Ok es → All P es

each_none : (P : Entry → Type 0) → Each P (Ok [])
each_none P es is = subst (All P) (let e : [] ≡ es = cc in e) (All-nil P)

each_both : (P : Entry → Type 0) (own others : Mapped (List Entry)) → Each P own → Each P others → Each P (own >>= (λ xs. others >>= (λ ys. Ok (xs ++ ys))))
each_both P (Ok xs) (Ok ys) a b es is = subst (All P) (let e : xs ++ ys ≡ es = cc in e) (All-append P xs ys (a xs refl) (b ys refl))
each_both P (Ok xs) (Err fault) a b es is = cc
each_both P (Err fault) others a b es is = cc

each_part : (P : Entry → Type 0) (part : Bool) (own rest others : Mapped (List Entry)) → Each P own → Each P rest → Each P others
    → Each P (cond part (own >>= (λ xs. rest >>= (λ ys. Ok (xs ++ ys)))) others)
each_part P true own rest others a b c = each_both P own rest a b
each_part P false own rest others a b c = c

each_weaker : (P Q : Entry → Type 0) → ((e : Entry) → P e → Q e) → (r : Mapped (List Entry)) → Each P r → Each Q r
each_weaker P Q so r h es is = All-weaker P Q so es (h es is)

row_begins : (scene : Scene) (row : Styled) (bs : List BoxStyle) (ms : List Measure) (place : Place) (children : Container → List (Option Region) → Mapped (List Entry))
    → ((above : Container) (regions : List (Option Region)) → Each (StandsFrom above.key 0) (children above regions)) → Each (Begins place.key) (row_entries scene row bs ms children place)
row_begins scene row bs ms place children so es is =
    let m = is_mapped scene row bs ms place children es is in
    let own : Begins place.key (entry_at scene row place m.bars) = record { rest = []; is = sym (append-nil place.key) } in
    subst (All (Begins place.key)) (sym m.all)
    (All-cons (Begins place.key) (entry_at scene row place m.bars) m.rest own
    (All-weaker (StandsFrom place.key 0) (Begins place.key) (λ e s. goes_on place.key 0 e s) m.rest (so (container scene row place m.bars) m.bars.arrangement.placed m.rest m.below)))

region_stands : (scene : Scene) (row : Styled) (bs : List BoxStyle) (ms : List Measure) (above : Container) (place : ℕ) (children : Container → List (Option Region) → Mapped (List Entry))
    → ((within : Container) (regions : List (Option Region)) → Each (StandsFrom within.key 0) (children within regions)) → (region : Option Region)
    → Each (StandsAt above.key place) (entries_if (λ r. row_entries scene row bs ms children (child_place above row place r)) region)
region_stands scene row bs ms above place children so None = each_none (StandsAt above.key place)
region_stands scene row bs ms above place children so (Some region) =
    each_weaker (Begins (child_key above row place)) (StandsAt above.key place) (λ e b. child_stands above row place e b) _ (row_begins scene row bs ms (child_place above row place region) children so)

all_stand : (scene : Scene) (f : Forest) (above : Container) (place : ℕ) (regions : List (Option Region)) → Each (StandsFrom above.key place) (entries scene f above place regions)
unfolding entries
all_stand scene Empty above place regions = each_none (StandsFrom above.key place)
all_stand scene (Grown row below beside) above place regions =
    each_part (StandsFrom above.key place) (is_taking_part row) _ _ _
    (each_weaker (StandsAt above.key place) (StandsFrom above.key place) (λ e s. from_here above.key place e s) _
    (region_stands scene row (boxes row.style below) (measures scene.pictures scene.size below) above place (λ within. entries scene below within 0) (λ within rs. all_stand scene below within 0 rs) (first_region regions)))
    (each_weaker (StandsFrom above.key (place + 1)) (StandsFrom above.key place) (λ e s. from_next above.key place e s) _ (all_stand scene beside above (place + 1) (drop 1 regions)))
    (each_weaker (StandsFrom above.key (place + 1)) (StandsFrom above.key place) (λ e s. from_next above.key place e s) _ (all_stand scene beside above (place + 1) regions))

-- ---- no two are the same

abbrev DiffersFrom : Entry → Entry → Type 0
DiffersFrom e other = ¬ (e.key ≡ other.key)

longer : (front : List ℕ) (x : ℕ) (xs : List ℕ) → front ≡ front ++ x ∷ xs → ⊥
longer front x xs is = let l : length front ≡ length front + length (x ∷ xs) = ap length is ∙ length-append front (x ∷ xs) in absurd (omega (arith, l))

same_place : (front : List ℕ) (a b p c d q : ℕ) (xs ys : List ℕ) → front ++ a ∷ (b ∷ (p ∷ xs)) ≡ front ++ c ∷ (d ∷ (q ∷ ys)) → p ≡ q
same_place front a b p c d q xs ys is = third a b p c d q xs ys (append_cancel_left front (a ∷ (b ∷ (p ∷ xs))) (c ∷ (d ∷ (q ∷ ys))) is)
  where
    third : (a b p c d q : ℕ) (xs ys : List ℕ) → a ∷ (b ∷ (p ∷ xs)) ≡ c ∷ (d ∷ (q ∷ ys)) → p ≡ q
    third a b p c d q xs ys is = cc

differ : (front : List ℕ) (place : ℕ) (e f : Entry) → StandsAt front place e → StandsFrom front (place + 1) f → DiffersFrom e f
differ front place e f s t is =
    let same : place ≡ t.at = same_place front s.layer s.docked place t.stands.layer t.stands.docked t.at s.rest t.stands.rest (sym s.is ∙ is ∙ t.stands.is) in
    absurd (omega (arith, same, t.from))

apart_both : (front : List ℕ) (place : ℕ) (xs ys : List Entry) → All (StandsAt front place) xs → All (StandsFrom front (place + 1)) ys → AreApart xs → AreApart ys → AreApart (xs ++ ys)
apart_both front place [] ys s t a b = b
apart_both front place (x ∷ xs) ys s t a b =
    let cross : All (DiffersFrom x) ys = All-weaker (StandsFrom front (place + 1)) (DiffersFrom x) (λ f u. differ front place x f (All-head (StandsAt front place) x xs s) u) ys t in
    (All-append (DiffersFrom x) xs ys a.0 cross, apart_both front place xs ys (All-tail (StandsAt front place) x xs s) t a.1 b)

abbrev Apart : Mapped (List Entry) → Type 0
Apart r = (es : List Entry) → r ≡ Ok es → AreApart es

none_apart : Apart (Ok [])
none_apart es is = subst AreApart (let e : [] ≡ es = cc in e) tt

both_apart : (front : List ℕ) (place : ℕ) (own others : Mapped (List Entry)) → Each (StandsAt front place) own → Each (StandsFrom front (place + 1)) others → Apart own → Apart others
    → Apart (own >>= (λ xs. others >>= (λ ys. Ok (xs ++ ys))))
both_apart front place (Ok xs) (Ok ys) s t a b es is = subst AreApart (let e : xs ++ ys ≡ es = cc in e) (apart_both front place xs ys (s xs refl) (t ys refl) (a xs refl) (b ys refl))
both_apart front place (Ok xs) (Err fault) s t a b es is = cc
both_apart front place (Err fault) others s t a b es is = cc

part_apart : (front : List ℕ) (place : ℕ) (part : Bool) (own rest others : Mapped (List Entry)) → Each (StandsAt front place) own → Each (StandsFrom front (place + 1)) rest → Apart own → Apart rest → Apart others
    → Apart (cond part (own >>= (λ xs. rest >>= (λ ys. Ok (xs ++ ys)))) others)
part_apart front place true own rest others s t a b c = both_apart front place own rest s t a b
part_apart front place false own rest others s t a b c = c

above_differs : (e f : Entry) → StandsFrom e.key 0 f → DiffersFrom e f
above_differs e f s is = longer e.key s.stands.layer (s.stands.docked ∷ (s.at ∷ s.stands.rest)) (is ∙ s.stands.is)

row_apart : (scene : Scene) (row : Styled) (bs : List BoxStyle) (ms : List Measure) (place : Place) (children : Container → List (Option Region) → Mapped (List Entry))
    → ((above : Container) (regions : List (Option Region)) → Each (StandsFrom above.key 0) (children above regions)) → ((above : Container) (regions : List (Option Region)) → Apart (children above regions))
    → Apart (row_entries scene row bs ms children place)
row_apart scene row bs ms place children stand so es is =
    let m = is_mapped scene row bs ms place children es is in
    let own = entry_at scene row place m.bars in
    let later : All (DiffersFrom own) m.rest =
    All-weaker (StandsFrom place.key 0) (DiffersFrom own) (λ f s. above_differs own f s) m.rest (stand (container scene row place m.bars) m.bars.arrangement.placed m.rest m.below) in
    subst AreApart (sym m.all) (let all : AreApart (own ∷ m.rest) = (later, so (container scene row place m.bars) m.bars.arrangement.placed m.rest m.below) in all)

region_apart : (scene : Scene) (row : Styled) (bs : List BoxStyle) (ms : List Measure) (above : Container) (place : ℕ) (children : Container → List (Option Region) → Mapped (List Entry))
    → ((within : Container) (regions : List (Option Region)) → Each (StandsFrom within.key 0) (children within regions)) → ((within : Container) (regions : List (Option Region)) → Apart (children within regions))
    → (region : Option Region) → Apart (entries_if (λ r. row_entries scene row bs ms children (child_place above row place r)) region)
region_apart scene row bs ms above place children stand so None = none_apart
region_apart scene row bs ms above place children stand so (Some region) = row_apart scene row bs ms (child_place above row place region) children stand so

all_apart : (scene : Scene) (f : Forest) (above : Container) (place : ℕ) (regions : List (Option Region)) → Apart (entries scene f above place regions)
unfolding entries
all_apart scene Empty above place regions = none_apart
all_apart scene (Grown row below beside) above place regions =
    let bs = boxes row.style below in
    let ms = measures scene.pictures scene.size below in
    part_apart above.key place (is_taking_part row) _ _ _
    (region_stands scene row bs ms above place (λ within. entries scene below within 0) (λ within rs. all_stand scene below within 0 rs) (first_region regions))
    (all_stand scene beside above (place + 1) (drop 1 regions))
    (region_apart scene row bs ms above place (λ within. entries scene below within 0) (λ within rs. all_stand scene below within 0 rs) (λ within rs. all_apart scene below within 0 rs) (first_region regions))
    (all_apart scene beside above (place + 1) (drop 1 regions))
    (all_apart scene beside above (place + 1) regions)

map_apart : (scene : Scene) (f : Forest) → Apart (entries_from scene f)
map_apart scene Empty = none_apart
map_apart scene (Grown row below beside) =
    row_apart scene row (boxes row.style below) (measures scene.pictures scene.size below) (screen_place scene.size) (λ within. entries scene below within 0)
    (λ within rs. all_stand scene below within 0 rs) (λ within rs. all_apart scene below within 0 rs)

pub keys_differ : KeysDiffer
keys_differ scene es is = map_apart scene (rows_of scene) es is

-- the first entry of a map has the empty key
first_empty : (scene : Scene) (first : Entry) (others : List Entry) (f : Forest) → entries_from scene f ≡ Ok (first ∷ others) → first.key ≡ []
first_empty scene first others Empty is = cc
first_empty scene first others (Grown row below beside) is =
    let m = is_mapped scene row (boxes row.style below) (measures scene.pictures scene.size below) (screen_place scene.size) (λ within. entries scene below within 0) (first ∷ others) is in
    ap (λ (x : Entry). x.key) (head_is first (entry_at scene row (screen_place scene.size) m.bars) others m.rest m.all)
  where
    head_is : (a b : Entry) (xs ys : List Entry) → a ∷ xs ≡ b ∷ ys → a ≡ b
    head_is a b xs ys p = cc

pub screen_alone_is_lowest : ScreenAloneIsLowest
screen_alone_is_lowest scene first others is =
    let empty : first.key ≡ [] = first_empty scene first others (rows_of scene) is in
    let apart : AreApart (first ∷ others) = keys_differ scene (first ∷ others) is in
    (empty, All-weaker (DiffersFrom first) (λ (other : Entry). ¬ (other.key ≡ [])) (λ e d h. d (empty ∙ sym h)) others apart.0)

-- ---- the order

exceeds_front : (front xs ys : List ℕ) → exceeds (front ++ xs) (front ++ ys) ≡ exceeds xs ys
exceeds_front [] xs ys = refl
exceeds_front (x ∷ front) xs ys = rw (eq-eqb x x refl) (exceeds_front front xs ys)

greater_first : (x y : ℕ) (xs ys : List ℕ) → y < x → exceeds (x ∷ xs) (y ∷ ys) ≡ true
greater_first x y xs ys less = by (x == y) refl
  where
    by : (b : Bool) → (x == y) ≡ b → cond b (exceeds xs ys) (nat_lt y x) ≡ true
    by true is = let same : x ≡ y = eqb-true x y is in absurd (omega (arith, same, less))
    by false is = lt-ltb y x less

same_first : (x y : ℕ) (xs ys : List ℕ) → x ≡ y → exceeds xs ys ≡ true → exceeds (x ∷ xs) (y ∷ ys) ≡ true
same_first x y xs ys same more = rw (eq-eqb x y same) more

greater_or : (x y : ℕ) (xs ys : List ℕ) (More : Type 0) → IsGreaterOr x y More → (More → exceeds xs ys ≡ true) → exceeds (x ∷ xs) (y ∷ ys) ≡ true
greater_or x y xs ys More (inl less) so = greater_first x y xs ys less
greater_or x y xs ys More (inr same) so = same_first x y xs ys same.0 (so same.1)

before_by : (above : Container) (row other : Styled) (place at : ℕ) (xs ys : List ℕ) → StandsBefore above row place other at
    → exceeds (layer_number above.style row.style ∷ (docked_number (dock row.style) ∷ (place ∷ xs))) (layer_number above.style other.style ∷ (docked_number (dock other.style) ∷ (at ∷ ys))) ≡ true
before_by above row other place at xs ys before =
    let d = docked_number (dock row.style) in
    let e = docked_number (dock other.style) in
    greater_or (layer_number above.style row.style) (layer_number above.style other.style) (d ∷ (place ∷ xs)) (e ∷ (at ∷ ys)) (IsGreaterOr d e (at < place)) before
    (λ inner. greater_or d e (place ∷ xs) (at ∷ ys) (at < place) inner (λ less. greater_first place at xs ys less))

is_before : (above : Container) (row other : Styled) (place at : ℕ) (e f : Entry) → StandsBefore above row place other at
    → Begins (child_key above row place) e → Begins (child_key above other at) f → IsBefore e f
unfolding child_stands
is_before above row other place at e f before a b =
    let s = child_stands above row place e a in
    let t = child_stands above other at f b in
    ap (λ (k : List ℕ). exceeds k f.key) s.is ∙ ap (λ (k : List ℕ). exceeds (above.key ++ s.layer ∷ (s.docked ∷ (place ∷ s.rest))) k) t.is
    ∙ exceeds_front above.key (s.layer ∷ (s.docked ∷ (place ∷ s.rest))) (t.layer ∷ (t.docked ∷ (at ∷ t.rest))) ∙ before_by above row other place at s.rest t.rest before

child_begins : (scene : Scene) (row : Styled) (behind : List Styled) (above : Container) (place : ℕ) (region : Option Region) (part : Bool)
    → Each (Begins (child_key above row place)) (cond part (entries_if (λ r. subtree_entries scene row behind (child_place above row place r)) region) (Ok []))
child_begins scene row behind above place region false = each_none (Begins (child_key above row place))
child_begins scene row behind above place None true = each_none (Begins (child_key above row place))
child_begins scene row behind above place (Some region) true =
    row_begins scene row (boxes row.style (rows_below row behind)) (measures scene.pictures scene.size (rows_below row behind)) (child_place above row place region)
    (λ within. entries scene (rows_below row behind) within 0) (λ within rs. all_stand scene (rows_below row behind) within 0 rs)

is_over : (own e : Entry) → StandsFrom own.key 0 e → IsBefore e own
is_over own e s =
    let longer = s.stands.layer ∷ (s.stands.docked ∷ (s.at ∷ s.stands.rest)) in
    ap (λ (k : List ℕ). exceeds k own.key) s.stands.is ∙ ap (λ (k : List ℕ). exceeds (own.key ++ longer) k) (sym (append-nil own.key)) ∙ exceeds_front own.key longer []

below_over : (scene : Scene) (row : Styled) (behind : List Styled) (place : Place) (own : Entry) (below : List Entry)
    → subtree_entries scene row behind place ≡ Ok (own ∷ below) → All (λ (e : Entry). IsBefore e own) below
below_over scene row behind place own below is =
    let f = rows_below row behind in
    let m = is_mapped scene row (boxes row.style f) (measures scene.pictures scene.size f) place (λ within. entries scene f within 0) (own ∷ below) is in
    let head : own ≡ entry_at scene row place m.bars = head_is own (entry_at scene row place m.bars) below m.rest m.all in
    let tail : below ≡ m.rest = tail_is own (entry_at scene row place m.bars) below m.rest m.all in
    let stand : All (StandsFrom place.key 0) m.rest = all_stand scene f (container scene row place m.bars) 0 m.bars.arrangement.placed m.rest m.below in
    let key : place.key ≡ own.key = ap (λ (x : Entry). x.key) (sym head) in
    let stands : All (StandsFrom own.key 0) below = subst (λ (k : List ℕ). All (StandsFrom k 0) below) key (subst (All (StandsFrom place.key 0)) (sym tail) stand) in
    All-weaker (StandsFrom own.key 0) (λ (e : Entry). IsBefore e own) (λ e s. is_over own e s) below stands
  where
    head_is : (a b : Entry) (xs ys : List Entry) → a ∷ xs ≡ b ∷ ys → a ≡ b
    head_is a b xs ys p = cc

    tail_is : (a b : Entry) (xs ys : List Entry) → a ∷ xs ≡ b ∷ ys → xs ≡ ys
    tail_is a b xs ys p = cc

pub keys_in_order : KeysInOrder
keys_in_order = record {
  below = below_over;
  beside = λ scene above row other behind after place at regions spaces es fs before is are.
      let ones = child_begins scene row behind above place (first_region regions) (is_taking_part row) es is in
      let others = child_begins scene other after above at (first_region spaces) (is_taking_part other) fs are in
      All-weaker (Begins (child_key above row place)) (λ (one : Entry). All (IsBefore one) fs)
      (λ e a. All-weaker (Begins (child_key above other at)) (IsBefore e) (λ f b. is_before above row other place at e f before a b) fs others) es ones;
}
