-- A row more, behind all others.
use Rattle.std.proofs.lemmas.Bool.{and_parts, and_from}
use Rattle.std.proofs.Common.{◌≡◌, ℕ, ◌+◌, ◌-◌, ◌<◌, ◌≤◌, ◌==◌, ◌||◌, Bool, true, false, cond, not, nat_le, nat_lt, List, [], ◌∷◌, ◌++◌, length, take, get_or, slice_index, Option, Some, None, Result, Ok, Err, refl, ap, sym, subst, subst₂, ◌∙◌, arith, append_assoc, length-append, length-take-le}
use Rattle.std.specs.Option.{option_map_or}
use Rattle.std.specs.List.{list_all}
use Rattle.std.proofs.lemmas.List.{get_or-take, get_or_append_left}
use Rattle.std.proofs.Math.Seq.{get_or-append_seam}
use Rattle.std.proofs.lemmas.Bool.{false≢true, leb-true, le-leb, lt-ltb, ltb-true, ltb-false, ne_eqb}
use Rattle.std.proofs.lemmas.Bool.Decides.{Decides-eqb}
use Rattle.tx_read.specs.Pieces.{pieces}
use Rattle.tx_tree.specs.Kind.{is_screen, holds_children}
use Rattle.tx_tree.specs.Mount.{mount_refusal, refusal_below, mounted, is_taken}
use Rattle.tx_tree.specs.Rows.{depth_of}
use Rattle.tx_tree.specs.Refusal.{Answers, AnswersAtOnce}
use Rattle.tx_tree.specs.Row.{has_number, placed}
use Rattle.tx_tree.specs.TreeValue.{TreeValue}
use Rattle.tx_tree.specs.Rows.{row_at, before_of, from_of, deeper, past, last_above}
use Rattle.tx_tree.specs.declared.bind.Bind.{Bind}
use Rattle.tx_tree.specs.declared.fault.TreeFault.{TreeFault}
use Rattle.tx_tree.specs.declared.fault.TreeFault.TheVariants.{Grammar, NoNode, DuplicateId, TooMany, TooDeep, Root, Leaf, NotSiblings, NoMemory}
use Rattle.tx_tree.specs.declared.row.NewRow.{NewRow}
use Rattle.tx_tree.specs.declared.row.Row.{Row}
use Rattle.tx_tree_file.proofs.Fronts.{some-same, none-some}
use Rattle.tx_tree_file.specs.FirstFault.{is_held}
use Rattle.tx_tree_file.specs.Sections.{with_binds, rows_from, IsOpen, IsPath, IsGrown, IsMet, Leads}
use Rattle.tx_tree_file.specs.declared.section.Met.{Met}
use Rattle.tx_tree_file.specs.TreeReading.{Begun, LineFault, with_new, or_fault, refused, FaultIs, rows_behind}

-- ---- an open row

from_front : (n : ℕ) (front : List Row) (row : Row) (below : List Row) → list_all (λ r. not (has_number n r)) front ≡ true → row.node.0 ≡ n
    → (before_of n (front ++ (row ∷ below)) ≡ front) × (from_of n (front ++ (row ∷ below)) ≡ row ∷ below) × (row_at n (front ++ (row ∷ below)) ≡ Some row)
from_front n [] row below new e = let is = (Decides-eqb row.node.0 n).1 e in (rw is refl, rw is refl, rw is refl)
from_front n (r ∷ front) row below new e = by (has_number n r) (and_parts _ _ new).0 (from_front n front row below (and_parts _ _ new).1 e)
  where
    by : (b : Bool) → not b ≡ true → (before_of n (front ++ (row ∷ below)) ≡ front) × (from_of n (front ++ (row ∷ below)) ≡ row ∷ below) × (row_at n (front ++ (row ∷ below)) ≡ Some row)
        → (cond b [] (r ∷ before_of n (front ++ (row ∷ below))) ≡ r ∷ front) × (cond b (r ∷ (front ++ (row ∷ below))) (from_of n (front ++ (row ∷ below))) ≡ row ∷ below)
        × (cond b (Some r) (row_at n (front ++ (row ∷ below))) ≡ Some row)
    by true h more = absurd cc
    by false h (a, b, c) = (ap (λ (z : List Row). r ∷ z) a, b, c)

all_deeper : (depth : ℕ) (below : List Row) → list_all (λ r. nat_lt depth r.depth) below ≡ true → (deeper depth below ≡ below) × (past depth below ≡ [])
all_deeper depth [] h = (refl, refl)
all_deeper depth (r ∷ below) h =
    let (a, b) = all_deeper depth below (and_parts _ _ h).1 in
    let first = (and_parts (nat_lt depth r.depth) _ h).0 in (
      rw first (ap (λ (z : List Row). r ∷ z) a),
      rw first b,
    )

above_below : (depth : ℕ) (row : Row) (below : List Row) → list_all (λ r. nat_lt depth r.depth) below ≡ true → last_above (depth + 1) (Some row) below ≡ Some row
above_below depth row [] h = refl
above_below depth row (r ∷ below) h =
    let deeper = ltb-true depth r.depth (and_parts _ _ h).0 in
    let other : (r.depth + 1 == depth + 1) ≡ false = ne_eqb (r.depth + 1) (depth + 1) (λ same. absurd (omega (arith, deeper, same))) in
    ap (λ (b : Bool). last_above (depth + 1) (cond b (Some r) (Some row)) below) other ∙ above_below depth row below (and_parts _ _ h).1

pub above_front : (depth : ℕ) (found : Option Row) (front : List Row) (row : Row) (below : List Row) → row.depth ≡ depth → list_all (λ r. nat_lt depth r.depth) below ≡ true
    → last_above (depth + 1) found (front ++ (row ∷ below)) ≡ Some row
above_front depth found [] row below e h =
    let is : (row.depth + 1 == depth + 1) ≡ true = (Decides-eqb (row.depth + 1) (depth + 1)).1 (ap (λ (d : ℕ). d + 1) e) in
    ap (λ (b : Bool). last_above (depth + 1) (cond b (Some row) found) below) is ∙ above_below depth row below h
above_front depth found (r ∷ front) row below e h = above_front depth (cond (r.depth + 1 == depth + 1) (Some r) found) front row below e h

pub open-row : (rows : List Row) (depth n : ℕ) (o : IsOpen rows depth n) → row_at n rows ≡ Some o.row
open-row rows depth n o = ap (row_at n) o.is ∙ (from_front n o.front o.row o.below o.new o.number).2

pub open-above : (rows : List Row) (depth n : ℕ) (o : IsOpen rows depth n) → last_above (depth + 1) None rows ≡ Some o.row
open-above rows depth n o = ap (last_above (depth + 1) None) o.is ∙ above_front depth None o.front o.row o.below o.at o.deeper

pub open-mounted : (rows : List Row) (depth n m : ℕ) (new : NewRow) → IsOpen rows depth n → mounted n m new rows ≡ rows ++ placed new m (depth + 1) ∷ []
open-mounted rows depth n m new o =
    let parts = from_front n o.front o.row o.below o.new o.number in
    let (all, none) = all_deeper o.row.depth o.below (subst (λ (d : ℕ). list_all (λ r. nat_lt d r.depth) o.below ≡ true) (sym o.at) o.deeper) in
    let depth_is : depth_of n (o.front ++ (o.row ∷ o.below)) ≡ depth = ap (λ (z : Option Row). option_map_or (λ row. row.depth) z 0) parts.2 ∙ o.at in
    ap (mounted n m new) o.is
    ∙ rw (parts.0, parts.1, all, none, depth_is) refl
    ∙ sym (append_assoc o.front (o.row ∷ o.below) (placed new m (depth + 1) ∷ []))
    ∙ ap (λ (z : List Row). z ++ placed new m (depth + 1) ∷ []) (sym o.is)

pub all-snoc : {A : Type 0} (p : A → Bool) (xs : List A) (x : A) → list_all p xs ≡ true → p x ≡ true → list_all p (xs ++ x ∷ []) ≡ true
all-snoc p [] x h e = and_from (p x) true e refl
all-snoc p (y ∷ xs) x h e = and_from (p y) (list_all p (xs ++ x ∷ [])) (and_parts _ _ h).0 (all-snoc p xs x (and_parts _ _ h).1 e)

-- it stays open where a deeper row comes
stays-open : (rows : List Row) (depth n : ℕ) (new : Row) → IsOpen rows depth n → depth < new.depth → IsOpen (rows ++ new ∷ []) depth n
stays-open rows depth n new o h = record {
  front = o.front;
  row = o.row;
  below = o.below ++ new ∷ [];
  is = ap (λ (z : List Row). z ++ new ∷ []) o.is ∙ append_assoc o.front (o.row ∷ o.below) (new ∷ []);
  number = o.number;
  at = o.at;
  new = o.new;
  deeper = all-snoc (λ r. nat_lt depth r.depth) o.below new o.deeper (lt-ltb depth new.depth h);
}

-- rows of smaller numbers have no such number
no-number : (n : ℕ) (rows : List Row) → list_all (λ row. nat_le row.node.0 n) rows ≡ true → list_all (λ r. not (has_number (n + 1) r)) rows ≡ true
no-number n [] h = refl
no-number n (row ∷ rows) h =
    let most = leb-true row.node.0 n (and_parts _ _ h).0 in
    and_from _ _ (ap not (ne_eqb row.node.0 (n + 1) (λ same. absurd (omega (arith, most, same))))) (no-number n rows (and_parts _ _ h).1)

pub more_numbers : (n m : ℕ) (rows : List Row) → n ≤ m → list_all (λ row. nat_le row.node.0 n) rows ≡ true → list_all (λ row. nat_le row.node.0 m) rows ≡ true
more_numbers n m [] e h = refl
more_numbers n m (row ∷ rows) e h =
    let most = leb-true row.node.0 n (and_parts _ _ h).0 in
    and_from _ _ (le-leb row.node.0 m (omega (arith, most, e))) (more_numbers n m rows e (and_parts _ _ h).1)

pub row_numbers : (n : ℕ) (rows : List Row) (row : Row) → list_all (λ r. nat_le r.node.0 n) rows ≡ true → row.node.0 ≡ n + 1 → list_all (λ r. nat_le r.node.0 (n + 1)) (rows ++ row ∷ []) ≡ true
row_numbers n rows row h e = all-snoc (λ r. nat_le r.node.0 (n + 1)) rows row (more_numbers n (n + 1) rows (omega arith) h) (le-leb row.node.0 (n + 1) (omega (arith, e)))

-- the nodes above a row that comes, and its own
pub next-path : (rows : List Row) (path : List ℕ) (new : Row) (n d : ℕ) → IsPath rows path → d ≤ length path → new.node.0 ≡ n + 1 → new.depth ≡ d
    → list_all (λ row. nat_le row.node.0 n) rows ≡ true → IsPath (rows ++ new ∷ []) (take d path ++ (n + 1) ∷ [])
next-path rows path new n d above few number at numbers k inside =
    let size : length (take d path ++ (n + 1) ∷ []) ≡ d + 1 = length-append (take d path) ((n + 1) ∷ []) ∙ ap (λ (z : ℕ). z + 1) (length-take-le d path few) in
    by (nat_lt k d) refl size
  where
    by : (b : Bool) → nat_lt k d ≡ b → length (take d path ++ (n + 1) ∷ []) ≡ d + 1 → IsOpen (rows ++ new ∷ []) k (slice_index (take d path ++ (n + 1) ∷ []) k)
    by true e size =
        let less = ltb-true k d e in
        subst (IsOpen (rows ++ new ∷ []) k) (sym (get_or-take d path k 0 less) ∙ sym (get_or_append_left (take d path) ((n + 1) ∷ []) 0 k (rw (length-take-le d path few) less)))
        (stays-open rows k (slice_index path k) new (above k (omega (arith, less, few))) (omega (arith, less, at)))
    by false e size =
        let more = ltb-false k d e in
        let here : k ≡ d = omega (arith, more, size, inside) in
        let place : k ≡ length (take d path) = here ∙ sym (length-take-le d path few) in
        subst (IsOpen (rows ++ new ∷ []) k) (sym (ap (λ (i : ℕ). get_or (take d path ++ (n + 1) ∷ []) i 0) place ∙ get_or-append_seam (take d path) (n + 1) [] 0)) (record {
          front = rows;
          row = new;
          below = [];
          is = refl;
          number = number;
          at = at ∙ sym here;
          new = no-number n rows numbers;
          deeper = refl;
        })

-- ---- whether the row may be mounted

-- why a row can't be mounted, in the file's words
refusal_is : (rows : List Row) (made depth n : ℕ) (new : NewRow) (o : IsOpen rows depth n) → depth ≤ 62 → is_screen new.kind ≡ false
    → mount_refusal rows made n new ≡ cond (not (holds_children o.row.kind)) (Some Leaf) (cond (made == 65536) (Some TooMany) (cond (is_taken new.id rows) (Some DuplicateId) None))
refusal_is rows made depth n new o shallow other =
    let far : (o.row.depth == 63) ≡ false = ne_eqb o.row.depth 63 (λ same. absurd (omega (arith, shallow, same, o.at))) in
    ap (refusal_below rows made new) (open-row rows depth n o) ∙ rw (other, far) (by (holds_children o.row.kind))
  where
    rest : Option TreeFault
    rest = cond (made == 65536) (Some TooMany) (cond (is_taken new.id rows) (Some DuplicateId) None)

    by : (b : Bool) → cond (not b || false) (Some Leaf) rest ≡ cond (not b) (Some Leaf) rest
    by true = refl
    by false = refl

held_is : (rows : List Row) (depth n : ℕ) (o : IsOpen rows depth n) → is_held (depth + 1) rows ≡ holds_children o.row.kind
held_is rows depth n o = ap (λ (z : Option Row). option_map_or (λ parent. holds_children parent.kind) z true) (open-above rows depth n o)

-- it can't
pub refused-fault : (rows : List Row) (made depth n line : ℕ) (new : NewRow) (fault : TreeFault) (more : Begun → Result (List Row) LineFault) → IsOpen rows depth n → depth ≤ 62 → is_screen new.kind ≡ false
    → made ≡ length rows → mount_refusal rows made n new ≡ Some fault → FaultIs (or_fault line (with_new rows (depth + 1) new) more) (refused fault line)
refused-fault rows made depth n line new fault more o shallow other size h =
    by (holds_children o.row.kind) (length rows == 65536) (is_taken new.id rows) (held_is rows depth n o) refl refl
    (sym (refusal_is rows made depth n new o shallow other ∙ ap (λ (z : ℕ). cond (not (holds_children o.row.kind)) (Some Leaf) (cond (z == 65536) (Some TooMany) (cond (is_taken new.id rows) (Some DuplicateId) None))) size) ∙ h)
  where
    Is : TreeFault → Type 0
    Is f = FaultIs (or_fault line (with_new rows (depth + 1) new) more) (refused f line)

    by : (a b c : Bool) → is_held (depth + 1) rows ≡ a → (length rows == 65536) ≡ b → is_taken new.id rows ≡ c
        → cond (not a) (Some Leaf) (cond b (Some TooMany) (cond c (Some DuplicateId) None)) ≡ Some fault → Is fault
    by false b c e f g h = subst Is (some-same h) (rw e refl)
    by true true c e f g h = subst Is (some-same h) (rw (e, f) refl)
    by true false true e f g h = subst Is (some-same h) (rw (e, f, g) refl)
    by true false false e f g h = none-some h

-- it can
pub allowed : (rows : List Row) (made depth n : ℕ) (new : NewRow) → IsOpen rows depth n → depth ≤ 62 → is_screen new.kind ≡ false
    → made ≡ length rows → mount_refusal rows made n new ≡ None → with_new rows (depth + 1) new ≡ Ok (record { before = rows; last = placed new (length rows + 1) (depth + 1) })
allowed rows made depth n new o shallow other size h =
    by (holds_children o.row.kind) (length rows == 65536) (is_taken new.id rows) (held_is rows depth n o) refl refl
    (sym (refusal_is rows made depth n new o shallow other ∙ ap (λ (z : ℕ). cond (not (holds_children o.row.kind)) (Some Leaf) (cond (z == 65536) (Some TooMany) (cond (is_taken new.id rows) (Some DuplicateId) None))) size) ∙ h)
  where
    by : (a b c : Bool) → is_held (depth + 1) rows ≡ a → (length rows == 65536) ≡ b → is_taken new.id rows ≡ c
        → cond (not a) (Some Leaf) (cond b (Some TooMany) (cond c (Some DuplicateId) None)) ≡ None
        → with_new rows (depth + 1) new ≡ Ok (record { before = rows; last = placed new (length rows + 1) (depth + 1) })
    by false b c e f g h = none-some (sym h)
    by true true c e f g h = none-some (sym h)
    by true false true e f g h = none-some (sym h)
    by true false false e f g h = rw (e, f, g) refl

-- ---- the row is added

pub at_once-ok : (T : Type 0) (r : Option TreeFault) (x : T) → AnswersAtOnce {T = T} r (Ok x) → r ≡ None
at_once-ok T None x h = refl
at_once-ok T (Some fault) x h = absurd cc

pub at_once-err : (T : Type 0) (r : Option TreeFault) (fault : TreeFault) → AnswersAtOnce {T = T} r (Err fault) → r ≡ Some fault
at_once-err T None fault h = absurd (false≢true h)
at_once-err T (Some other) fault h = let same : other ≡ fault = cc in ap Some same

pub answers-err : (T : Type 0) (r : Option TreeFault) (fault : TreeFault) → r ≡ None → Answers {T = T} r (Err fault) → fault ≡ NoMemory
answers-err T None fault e h = h
answers-err T (Some other) fault e h = none-some (sym e)

pub fault_of : (read : Result (List Row) LineFault) (fault : TreeFault) → fault ≡ NoMemory → FaultIs read fault
fault_of read fault e = subst (FaultIs read) (sym e) tt

-- what the rows and the row that was met give
pub grown-rows : (rows after : List Row) (made depth n line node d : ℕ) (new : NewRow) (binds : List Bind) (rest : List ℕ) (next : Option Met) → IsOpen rows depth n → depth ≤ 62 → is_screen new.kind ≡ false
    → made ≡ length rows → mount_refusal rows made n new ≡ None → new.binds ≡ [] → d ≡ depth + 1
    → ((before : List Row) (last : Row) → last.depth ≡ d → rows_behind (pieces 10 rest) line (record { before = before; last = last }) ≡ rows_from (before ++ with_binds binds last ∷ []) next)
    → node ≡ made + 1 → after ≡ mounted n node (record new { binds = binds }) rows
    → or_fault line (with_new rows d new) (rows_behind (pieces 10 rest) line) ≡ rows_from after next
grown-rows rows after made depth n line node d new binds rest next o shallow other size may alone e leads number is =
    ap (λ (k : ℕ). or_fault line (with_new rows k new) (rows_behind (pieces 10 rest) line)) e
    ∙ ap (λ z. or_fault line z (rows_behind (pieces 10 rest) line)) (allowed rows made depth n new o shallow other size may)
    ∙ leads rows (placed new (length rows + 1) (depth + 1)) (sym e)
    ∙ ap (λ (z : List Bind). rows_from (rows ++ (record (placed new (length rows + 1) (depth + 1)) { binds = z }) ∷ []) next) (ap (λ (z : List Bind). z ++ binds) alone)
    ∙ ap (λ (k : ℕ). rows_from (rows ++ placed (record new { binds = binds }) k (depth + 1) ∷ []) next) (ap (λ (k : ℕ). k + 1) (sym size) ∙ sym number)
    ∙ ap (λ (z : List Row). rows_from z next) (sym (is ∙ open-mounted rows depth n node (record new { binds = binds }) o))

-- a fault behind the row
pub grown-fault : (rows : List Row) (made depth n line d : ℕ) (new : NewRow) (rest : List ℕ) (fault : TreeFault) → IsOpen rows depth n → depth ≤ 62 → is_screen new.kind ≡ false
    → made ≡ length rows → mount_refusal rows made n new ≡ None → d ≡ depth + 1 → Leads d rest line (Err fault) → FaultIs (or_fault line (with_new rows d new) (rows_behind (pieces 10 rest) line)) fault
grown-fault rows made depth n line d new rest fault o shallow other size may e leads =
    subst (λ (z : Result (List Row) LineFault). FaultIs z fault) (sym (
    ap (λ (k : ℕ). or_fault line (with_new rows k new) (rows_behind (pieces 10 rest) line)) e
    ∙ ap (λ z. or_fault line z (rows_behind (pieces 10 rest) line)) (allowed rows made depth n new o shallow other size may)
    )) (by fault leads)
  where
    by : (f : TreeFault) → Leads d rest line (Err f) → FaultIs (rows_behind (pieces 10 rest) line (record { before = rows; last = placed new (length rows + 1) (depth + 1) })) f
    by NoMemory h = tt
    by (Grammar l kind) h = h rows (placed new (length rows + 1) (depth + 1)) (sym e)
    by NoNode h = absurd h
    by DuplicateId h = absurd h
    by TooMany h = absurd h
    by TooDeep h = absurd h
    by Root h = absurd h
    by Leaf h = absurd h
    by NotSiblings h = absurd h

pub grown : (old new : TreeValue) (path after : List ℕ) (depth n node d : ℕ) (row : NewRow) → IsGrown old path → IsOpen old.rows depth n → d ≡ depth + 1 → d ≤ length path
    → node ≡ old.made + 1 → new.made ≡ old.made + 1 → new.rows ≡ mounted n node row old.rows → after ≡ take d path ++ node ∷ [] → IsGrown new after
grown old new path after depth n node d row h o e few number made is later =
    let rows : new.rows ≡ old.rows ++ placed row node (depth + 1) ∷ [] = is ∙ open-mounted old.rows depth n node row o in
    let ends : take d path ++ (old.made + 1) ∷ [] ≡ after = ap (λ (k : ℕ). take d path ++ k ∷ []) (sym number) ∙ sym later in
    let size = length-append (take d path) (node ∷ []) in
    record {
      above = subst₂ IsPath (sym rows) ends (next-path old.rows path (placed row node (depth + 1)) old.made d h.above few number (sym e) h.numbers);
      some = subst (λ (z : List ℕ). 1 ≤ length z) (sym later) (omega (arith, size));
      made = made ∙ ap (λ (k : ℕ). k + 1) h.made ∙ sym (ap length rows ∙ length-append old.rows (placed row node (depth + 1) ∷ []));
      numbers = subst₂ (λ (k : ℕ) (z : List Row). list_all (λ r. nat_le r.node.0 k) z ≡ true) (sym made) (sym rows) (row_numbers old.made old.rows (placed row node (depth + 1)) h.numbers number);
    }

pub path_size : (path after : List ℕ) (node d : ℕ) → d ≤ length path → after ≡ take d path ++ node ∷ [] → length after - 1 ≡ d
path_size path after node d few e =
    let a = ap length e ∙ length-append (take d path) (node ∷ []) in
    let b = length-take-le d path few in
    omega (arith, a, b)

-- the node above a row that was met
pub node_above : (rows : List Row) (path slice : List ℕ) (n d : ℕ) → IsPath rows path → slice ≡ path → n ≡ slice_index slice (d - 1) → 1 ≤ d → d ≤ length path → IsOpen rows (d - 1) n
node_above rows path slice n d above same at below few =
    subst (IsOpen rows (d - 1)) (sym (at ∙ ap (λ (z : List ℕ). slice_index z (d - 1)) same)) (above (d - 1) (omega (arith, below, few)))

pub met_few : (size d last : ℕ) → 1 ≤ size → last ≡ size - 1 → d ≤ last + 1 → d ≤ size
met_few size d last some is step = omega (arith, some, is, step)

pub weaker : (last done most done2 most2 : ℕ) (met : Met) → IsMet last done most met → done2 ≤ done → most ≤ most2 → IsMet last done2 most2 met
weaker last done most done2 most2 met h a b = record { widget = h.widget; later = omega (arith, h.later, a); lines = omega (arith, h.lines, b) }

pub refused-here : (rows : List Row) (made depth n line d : ℕ) (new : NewRow) (rest : List ℕ) (fault told : TreeFault) → IsOpen rows depth n → depth ≤ 62 → is_screen new.kind ≡ false
    → made ≡ length rows → mount_refusal rows made n new ≡ Some fault → d ≡ depth + 1 → told ≡ refused fault line
    → FaultIs (or_fault line (with_new rows d new) (rows_behind (pieces 10 rest) line)) told
refused-here rows made depth n line d new rest fault told o shallow other size h e f =
    subst₂ (λ (k : ℕ) (t : TreeFault). FaultIs (or_fault line (with_new rows k new) (rows_behind (pieces 10 rest) line)) t) (sym e) (sym f)
    (refused-fault rows made depth n line new fault (rows_behind (pieces 10 rest) line) o shallow other size h)

-- the Screen alone
pub first_grown : (tree : TreeValue) (row : NewRow) → tree.rows ≡ placed row 1 0 ∷ [] → tree.made ≡ 1 → IsGrown tree (1 ∷ [])
first_grown tree row is made = record {
  above = subst (λ (z : List Row). IsPath z (1 ∷ [])) (sym is) (λ k inside. subst (λ (n : ℕ). IsOpen (placed row 1 0 ∷ []) n (slice_index (1 ∷ []) n)) (omega (arith, inside)) (record {
    front = [];
    row = placed row 1 0;
    below = [];
    is = refl;
    number = refl;
    at = refl;
    new = refl;
    deeper = refl;
  }));
  some = omega arith;
  made = made ∙ sym (ap length is);
  numbers = subst₂ (λ (k : ℕ) (z : List Row). list_all (λ r. nat_le r.node.0 k) z ≡ true) (sym made) (sym is) refl;
}
