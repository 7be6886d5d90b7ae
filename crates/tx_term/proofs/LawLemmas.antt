-- Whole updates, as they are read.
use Rattle.std.proofs.Common.{◌≡◌, ◌≤◌, ◌+◌, ℕ, zero, suc, List, [], ◌∷◌, ◌++◌, length, zip, replicate, Bool, true, false, refl, arith, ap, ap₂, sym, ◌∙◌, cond, append_assoc, append-nil, length-append, Option, None, subst, codes, flat_map}
use Rattle.std.proofs.lemmas.List.{length-replicate}
use Rattle.std.proofs.lemmas.List.Elements.{All-head, All-tail, All-replicate}
use Rattle.std.specs.List.{All}
use Rattle.tx_cell.proofs.lemmas.MadeCells.{IsOfItsText-blank, white_on_black-channels}
use Rattle.tx_cell.specs.Cell.{CellValue, blank}
use Rattle.tx_cell.specs.Grid.{GridValue, IsGrid, filled}
use Rattle.tx_cell.specs.Strip.{IsWellFormed}
use Rattle.tx_cell.specs.declared.pen.Pen.{Pen}
use Rattle.tx_geom.specs.declared.places.Size.{Size}
use Rattle.tx_term.proofs.CanvasLemmas.{held-put_held}
use Rattle.tx_term.proofs.DrawingLemmas.{written-append, pen_after-append, rest_marks-all}
use Rattle.tx_term.proofs.FeedLemmas.{AreParameters, fed-append, fed-nothing, fed-cons, fed-sequence, step-cancel, pen-put_held, put_held-nothing}
use Rattle.tx_term.proofs.RowLemmas.{Stands-rest, row_leads, cut_front-formed}
use Rattle.tx_term.proofs.SizeLemmas.{size-put_held}
use Rattle.tx_term.proofs.UnitLemmas.{Stands, modes_of}
use Rattle.tx_term.specs.Canvas.{CanvasValue, put_held, erased}
use Rattle.tx_term.specs.Drawing.{pen_after, rest_marks}
use Rattle.tx_term.specs.Laws.{IsScreen, IsGivenBack, UpdatesLead, WholeUpdatesLead, UpdatesWithoutMarksAreEmpty, WholeUpdatesTake, UpdatesKeepTheModes, ClosingGivesBack}
use Rattle.tx_term.specs.Machine.{Machine, RestsOn, fed, ended, run, screen_of}
use Rattle.tx_cell.specs.Pen.{white_on_black}
use Rattle.tx_term.specs.Sequence.{command_of}
use Rattle.tx_term.specs.Update.{Mark, Move, Write, written, units, runs, run_marks, row_marks, rows_marks, opening, closing, update}
use Rattle.std.specs.Int.{is_in_range}
use Rattle.tx_term.specs.declared.machine.command.Command.{Command}
use Rattle.tx_term.specs.declared.machine.command.Command.TheVariants.{Erase, SetPen, ShowCursor, Alternate}

abbrev HasWidth : ℕ → List CellValue → Type 0
HasWidth width row = length row ≡ width

abbrev screen_with : Size → List (List CellValue) → GridValue
screen_with size rows = record { size = size; rows = rows }

-- ---- rows

module _ (modes : Bool × Bool) (size : Size) (whole : Bool) (high : size.height ≤ 65535) (broad : size.width ≤ 65535) where
  rows_lead : (news olds done : List (List CellValue)) (machine : Machine) (last : Option Pen)
      → length olds ≡ length news → length done + length news ≡ size.height
      → All (HasWidth size.width) olds → All (HasWidth size.width) news → All IsWellFormed olds → All IsWellFormed news
      → Stands modes machine (screen_with size (done ++ olds)) last 0 0 false
      → Stands modes (fed machine (written last (rows_marks whole (length done) olds news))) (screen_with size (done ++ news)) (pen_after last (rows_marks whole (length done) olds news)) 0 0 false
  rows_lead [] [] done machine last lens total old_widths new_widths olds_formed news_formed stands =
      subst (λ m. Stands modes m (screen_with size (done ++ [])) last 0 0 false) (sym (fed-nothing machine)) stands
  rows_lead [] (old ∷ olds) done machine last lens total old_widths new_widths olds_formed news_formed stands = absurd (omega (arith, lens))
  rows_lead (new ∷ news) [] done machine last lens total old_widths new_widths olds_formed news_formed stands = absurd (omega (arith, lens))
  rows_lead (new ∷ news) (old ∷ olds) done machine last lens total old_widths new_widths olds_formed news_formed stands =
      let y = length done in
      let old_width = All-head (HasWidth size.width) old olds old_widths in
      let new_width = All-head (HasWidth size.width) new news new_widths in
      let old_formed = All-head IsWellFormed old olds olds_formed in
      let first = row_marks whole y old new in
      let marks : rest_marks y false (units whole 0 (zip old new)) ≡ first = rest_marks-all y (units whole 0 (zip old new)) in
      let start = subst (λ row. Stands modes machine (screen_with size (done ++ row ∷ olds)) last y 0 false) (sym (cut_front-formed old old_formed)) (Stands-rest stands y 0) in
      let led = row_leads modes size done olds whole high broad (omega (arith, total)) (length new) new old [] machine last false (omega arith) (old_width ∙ sym new_width) (omega (arith, new_width))
      (All-head IsWellFormed new news news_formed) (record { owed = None; is_owed = tt; formed = old_formed }) refl start in
      let here = subst (λ m. Stands modes (fed machine (written last m)) (screen_with size (done ++ new ∷ olds)) (pen_after last m) 0 0 false) marks led in
      let next = fed machine (written last first) in
      let below : length (done ++ new ∷ []) ≡ y + 1 = length-append done (new ∷ []) in
      let more = rows_marks whole (y + 1) olds news in
      let others = rows_lead news olds (done ++ new ∷ []) next (pen_after last first) (omega (arith, lens)) (omega (arith, total, below))
      (All-tail (HasWidth size.width) old olds old_widths) (All-tail (HasWidth size.width) new news new_widths) (All-tail IsWellFormed old olds olds_formed) (All-tail IsWellFormed new news news_formed)
      (subst (λ rows. Stands modes next (screen_with size rows) (pen_after last first) 0 0 false) (sym (append_assoc done (new ∷ []) olds)) here) in
      let named = subst (λ r. Stands modes (fed next (written (pen_after last first) (rows_marks whole r olds news))) (screen_with size ((done ++ new ∷ []) ++ news)) (pen_after (pen_after last first) (rows_marks whole r olds news)) 0 0 false) below others in
      let all : fed machine (written last (first ++ more)) ≡ fed next (written (pen_after last first) more) =
      ap (fed machine) (written-append last first more) ∙ fed-append machine (written last first) (written (pen_after last first) more) in
      subst (λ m. Stands modes m (screen_with size (done ++ new ∷ news)) (pen_after last (first ++ more)) 0 0 false) (sym all)
      (subst (λ p. Stands modes (fed next (written (pen_after last first) more)) (screen_with size (done ++ new ∷ news)) p 0 0 false) (sym (pen_after-append last first more))
      (subst (λ rows. Stands modes (fed next (written (pen_after last first) more)) (screen_with size rows) (pen_after (pen_after last first) more) 0 0 false) (append_assoc done (new ∷ []) news) named))

-- ---- what is shown

-- the grid that is seen is the one with the held cell put
screen-put : (machine : Machine) → screen_of machine ≡ (put_held machine.canvas).grid
unfolding put_held
screen-put machine = refl

RestsOn-from_Stands : {modes : Bool × Bool} (machine : Machine) (grid : GridValue) (last : Option Pen) → Stands modes machine grid last 0 0 false → RestsOn machine grid
RestsOn-from_Stands machine grid last stands = record { whole = stands.ready; seen = screen-put machine ∙ stands.drawn }

Stands-from_RestsOn : (machine : Machine) (grid : GridValue) → RestsOn machine grid → Stands (modes_of machine) machine grid None 0 0 false
Stands-from_RestsOn machine grid rests = record { modes_are = refl; ready = rests.whole; drawn = sym (screen-put machine) ∙ rests.seen; pen = tt; follows = λ e. cc }

-- rows lead from any grid of that size, and the modes stay
pub record Leads (modes : Bool × Bool) (machine : Machine) (grid : GridValue) : Type 0 where
  pub modes_are : modes_of machine ≡ modes
  pub rests : RestsOn machine grid

grid_leads : (modes : Bool × Bool) (machine : Machine) (whole : Bool) (shown next : GridValue) → IsGrid shown → IsScreen next → shown.size ≡ next.size → Stands modes machine shown None 0 0 false
    → Leads modes (fed machine (written None (rows_marks whole 0 shown.rows next.rows))) next
grid_leads modes machine whole shown next old new same stands =
    let size = next.size in
    let widths = subst (λ (s : Size). All (HasWidth s.width) shown.rows) same old.width in
    let heights : length shown.rows ≡ length next.rows = old.height ∙ ap (λ (s : Size). s.height) same ∙ sym new.formed.height in
    let led = rows_lead modes size whole new.height new.width next.rows shown.rows [] machine None heights (omega (arith, new.formed.height))
    widths new.formed.width old.formed new.formed.formed
    (subst (λ s. Stands modes machine (screen_with s shown.rows) None 0 0 false) same stands) in
    record { modes_are = led.modes_are; rests = RestsOn-from_Stands _ next _ led }

-- ---- the laws

update_leads : (machine : Machine) (shown next : GridValue) → IsGrid shown → IsScreen next → shown.size ≡ next.size → RestsOn machine shown
    → Leads (modes_of machine) (fed machine (update shown next false)) next
unfolding update
update_leads machine shown next old new same rests =
    subst (λ bytes. Leads (modes_of machine) (fed machine bytes) next) (sym (append-nil (written None (rows_marks false 0 shown.rows next.rows))))
    (grid_leads (modes_of machine) machine false shown next old new same (Stands-from_RestsOn machine shown rests))

pub updates_lead : UpdatesLead
updates_lead machine shown next old new same rests = let led = update_leads machine shown next old new same rests in (led.rests.seen, led.rests)

pub updates_keep_modes : UpdatesKeepTheModes
updates_keep_modes machine shown next old new same rests =
    let led = update_leads machine shown next old new same rests in
    (ap (λ (m : Bool × Bool). m.0) led.modes_are, ap (λ (m : Bool × Bool). m.1) led.modes_are)

-- only marks have bytes
written-nothing : (marks : List Mark) → written None marks ≡ [] → marks ≡ []
written-nothing [] none = refl
written-nothing (Move row column ∷ marks) none = cc
written-nothing (Write cell ∷ marks) none = cc

pub updates_without_marks : UpdatesWithoutMarksAreEmpty
unfolding update
updates_without_marks shown next =
    let marks = rows_marks false 0 shown.rows next.rows in
    (λ none. written-nothing marks (sym (append-nil (written None marks)) ∙ none), λ none. append-nil (written None marks) ∙ ap (written None) none)

-- ---- the opening of a whole update

-- a sequence that is known
fed-known : (machine : Machine) (parameters : List ℕ) (last : ℕ) (command : Command) → AreParameters parameters → length parameters ≤ 61 → is_in_range 0x40 0x7E last ≡ true
    → command_of last parameters machine.canvas.pen ≡ command
    → fed machine (27 ∷ 91 ∷ (parameters ++ last ∷ [])) ≡ run command (ended machine)
fed-known machine parameters last command all short inside asked =
    fed-sequence machine parameters last all short inside ∙ ap (λ c. run c (ended machine)) asked

asks_alternate : (pen : Pen) → command_of 104 (codes "?1049") pen ≡ Alternate true
unfolding command_of
asks_alternate pen = refl

asks_cursor : (pen : Pen) → command_of 108 (codes "?25") pen ≡ ShowCursor false
unfolding command_of
asks_cursor pen = refl

asks_pen : (pen : Pen) → command_of 109 (codes "0") pen ≡ SetPen white_on_black
unfolding command_of
asks_pen pen = refl

asks_erase : (pen : Pen) → command_of 74 (codes "2") pen ≡ Erase
unfolding command_of
asks_erase pen = refl

-- the machine behind the opening
opened_by : (machine : Machine) → fed machine opening ≡
    (let m0 = ended machine in let m1 = record (ended m0) { alternate = true } in let m2 = record (ended m1) { cursor_shown = false } in
    let m3 = record (ended m2) { canvas = record (put_held m2.canvas) { pen = white_on_black } } in record (ended m3) { canvas = erased (put_held m3.canvas) })
opened_by machine =
    let m0 = ended machine in
    let m1 = record (ended m0) { alternate = true } in
    let m2 = record (ended m1) { cursor_shown = false } in
    let m3 = record (ended m2) { canvas = record (put_held m2.canvas) { pen = white_on_black } } in
    let s1 : List ℕ = 27 ∷ 91 ∷ (codes "?1049" ++ 104 ∷ []) in
    let s2 : List ℕ = 27 ∷ 91 ∷ (codes "?25" ++ 108 ∷ []) in
    let s3 : List ℕ = 27 ∷ 91 ∷ (codes "0" ++ 109 ∷ []) in
    let s4 : List ℕ = 27 ∷ 91 ∷ (codes "2" ++ 74 ∷ []) in
    fed-cons machine 24 (s1 ++ (s2 ++ (s3 ++ s4)))
    ∙ ap (λ m. fed m (s1 ++ (s2 ++ (s3 ++ s4)))) (step-cancel machine)
    ∙ fed-append m0 s1 (s2 ++ (s3 ++ s4))
    ∙ ap (λ m. fed m (s2 ++ (s3 ++ s4))) (fed-known m0 (codes "?1049") 104 (Alternate true) refl (omega arith) refl (asks_alternate m0.canvas.pen))
    ∙ fed-append m1 s2 (s3 ++ s4)
    ∙ ap (λ m. fed m (s3 ++ s4)) (fed-known m1 (codes "?25") 108 (ShowCursor false) refl (omega arith) refl (asks_cursor m1.canvas.pen))
    ∙ fed-append m2 s3 s4
    ∙ ap (λ m. fed m s4) (fed-known m2 (codes "0") 109 (SetPen white_on_black) refl (omega arith) refl (asks_pen m2.canvas.pen))
    ∙ fed-known m3 (codes "2") 74 Erase refl (omega arith) refl (asks_erase m3.canvas.pen)

-- whatever stood before it, the screen is blank then
Stands-opening : (machine : Machine) (size : Size) → machine.canvas.grid.size ≡ size → Stands (false, true) (fed machine opening) (filled size (blank white_on_black)) None 0 0 false
Stands-opening machine size same =
    let m0 = ended machine in
    let m1 = record (ended m0) { alternate = true } in
    let m2 = record (ended m1) { cursor_shown = false } in
    let m3 = record (ended m2) { canvas = record (put_held m2.canvas) { pen = white_on_black } } in
    let m4 = record (ended m3) { canvas = erased (put_held m3.canvas) } in
    let nothing : m4.canvas.held ≡ [] = held-put_held m3.canvas in
    let kept : (put_held m3.canvas).grid.size ≡ size =
    size-put_held m3.canvas ∙ size-put_held m2.canvas ∙ size-put_held m1.canvas ∙ size-put_held m0.canvas ∙ size-put_held machine.canvas ∙ same in
    subst (λ m. Stands (false, true) m (filled size (blank white_on_black)) None 0 0 false) (sym (opened_by machine))
    (record {
      modes_are = refl;
      ready = refl;
      drawn = ap (λ (c : CanvasValue). c.grid) (put_held-nothing m4.canvas nothing) ∙ ap₂ (λ s p. filled s (blank p)) kept (pen-put_held m3.canvas);
      pen = tt;
      follows = λ e. cc;
    })

-- ---- all cells count as differing

units-whole : (column : ℕ) (news olds others : List CellValue) → length olds ≡ length news → length others ≡ length news
    → units true column (zip olds news) ≡ units true column (zip others news)
units-whole column [] [] [] first second = refl
units-whole column [] (o ∷ olds) others first second = absurd (omega (arith, first))
units-whole column [] [] (p ∷ others) first second = absurd (omega (arith, second))
units-whole column (n ∷ news) [] others first second = absurd (omega (arith, first))
units-whole column (n ∷ news) (o ∷ olds) [] first second = absurd (omega (arith, second))
units-whole column (n ∷ news) (o ∷ olds) (p ∷ others) first second =
    ap (λ u. cond n.tail u (record { column = column; cell = n; differs = true } ∷ u)) (units-whole (column + 1) news olds others (omega (arith, first)) (omega (arith, second)))

rows-whole : (width row : ℕ) (news olds others : List (List CellValue)) → length olds ≡ length news → length others ≡ length news
    → All (HasWidth width) news → All (HasWidth width) olds → All (HasWidth width) others
    → rows_marks true row olds news ≡ rows_marks true row others news
rows-whole width row [] [] [] first second n o p = refl
rows-whole width row [] (old ∷ olds) others first second n o p = absurd (omega (arith, first))
rows-whole width row [] [] (other ∷ others) first second n o p = absurd (omega (arith, second))
rows-whole width row (new ∷ news) [] others first second n o p = absurd (omega (arith, first))
rows-whole width row (new ∷ news) (old ∷ olds) [] first second n o p = absurd (omega (arith, second))
rows-whole width row (new ∷ news) (old ∷ olds) (other ∷ others) first second n o p =
    let w = All-head (HasWidth width) new news n in
    ap₂ (λ u more. flat_map (run_marks row false) (runs u) ++ more)
    (units-whole 0 new old other (All-head (HasWidth width) old olds o ∙ sym w) (All-head (HasWidth width) other others p ∙ sym w))
    (rows-whole width (row + 1) news olds others (omega (arith, first)) (omega (arith, second)) (All-tail (HasWidth width) new news n) (All-tail (HasWidth width) old olds o) (All-tail (HasWidth width) other others p))

blanks_formed : (n : ℕ) → IsWellFormed (replicate n (blank white_on_black))
blanks_formed zero = tt
blanks_formed (suc n) = (IsOfItsText-blank white_on_black white_on_black-channels, blanks_formed n)

IsGrid-blank : (size : Size) → IsGrid (filled size (blank white_on_black))
IsGrid-blank size = record {
  height = length-replicate size.height (replicate size.width (blank white_on_black));
  width = All-replicate (HasWidth size.width) size.height (replicate size.width (blank white_on_black)) (length-replicate size.width (blank white_on_black));
  formed = All-replicate IsWellFormed size.height (replicate size.width (blank white_on_black)) (blanks_formed size.width);
}

whole_update_leads : (machine : Machine) (shown next : GridValue) → IsGrid shown → IsScreen next → shown.size ≡ next.size → machine.canvas.grid.size ≡ next.size
    → Leads (false, true) (fed machine (update shown next true)) next
unfolding update
whole_update_leads machine shown next old new same size =
    let blanks = filled next.size (blank white_on_black) in
    let marks = rows_marks true 0 shown.rows next.rows in
    let grid = IsGrid-blank next.size in
    let begun = fed machine opening in
    let heights : length shown.rows ≡ length next.rows = old.height ∙ ap (λ (s : Size). s.height) same ∙ sym new.formed.height in
    let widths = subst (λ (s : Size). All (HasWidth s.width) shown.rows) same old.width in
    let alike : marks ≡ rows_marks true 0 blanks.rows next.rows = rows-whole next.size.width 0 next.rows shown.rows blanks.rows heights (grid.height ∙ sym new.formed.height) new.formed.width widths grid.width in
    let led = grid_leads (false, true) begun true blanks next grid new refl (Stands-opening machine next.size size) in
    let named = subst (λ m. Leads (false, true) (fed begun (written None m)) next) (sym alike) led in
    let all : fed machine (opening ++ (written None marks ++ [])) ≡ fed begun (written None marks) =
    ap (λ bytes. fed machine (opening ++ bytes)) (append-nil (written None marks)) ∙ fed-append machine opening (written None marks) in
    subst (λ m. Leads (false, true) m next) (sym all) named

pub whole_updates_lead : WholeUpdatesLead
whole_updates_lead machine shown next old new same size = let led = whole_update_leads machine shown next old new same size in (led.rests.seen, led.rests)

pub whole_updates_take : WholeUpdatesTake
whole_updates_take machine shown next old new same size =
    let led = whole_update_leads machine shown next old new same size in
    record { cursor = ap (λ (m : Bool × Bool). m.0) led.modes_are; screen = ap (λ (m : Bool × Bool). m.1) led.modes_are }

-- ---- the closing bytes

asks_cursor_again : (pen : Pen) → command_of 104 (codes "?25") pen ≡ ShowCursor true
unfolding command_of
asks_cursor_again pen = refl

asks_main : (pen : Pen) → command_of 108 (codes "?1049") pen ≡ Alternate false
unfolding command_of
asks_main pen = refl

pub closing_gives_back : ClosingGivesBack
closing_gives_back machine =
    let m0 = ended machine in
    let m1 = record (ended m0) { canvas = record (put_held m0.canvas) { pen = white_on_black } } in
    let m2 = record (ended m1) { cursor_shown = true } in
    let m3 = record (ended m2) { alternate = false } in
    let s1 : List ℕ = 27 ∷ 91 ∷ (codes "0" ++ 109 ∷ []) in
    let s2 : List ℕ = 27 ∷ 91 ∷ (codes "?25" ++ 104 ∷ []) in
    let s3 : List ℕ = 27 ∷ 91 ∷ (codes "?1049" ++ 108 ∷ []) in
    let read : fed machine closing ≡ m3 =
    fed-cons machine 24 (s1 ++ (s2 ++ s3))
    ∙ ap (λ m. fed m (s1 ++ (s2 ++ s3))) (step-cancel machine)
    ∙ fed-append m0 s1 (s2 ++ s3)
    ∙ ap (λ m. fed m (s2 ++ s3)) (fed-known m0 (codes "0") 109 (SetPen white_on_black) refl (omega arith) refl (asks_pen m0.canvas.pen))
    ∙ fed-append m1 s2 s3
    ∙ ap (λ m. fed m s3) (fed-known m1 (codes "?25") 104 (ShowCursor true) refl (omega arith) refl (asks_cursor_again m1.canvas.pen))
    ∙ fed-known m2 (codes "?1049") 108 (Alternate false) refl (omega arith) refl (asks_main m2.canvas.pen) in
    subst IsGivenBack (sym read) (record {
      whole = refl;
      held = held-put_held m2.canvas;
      pen = pen-put_held m2.canvas ∙ pen-put_held m1.canvas;
      cursor = refl;
      screen = refl;
    })
