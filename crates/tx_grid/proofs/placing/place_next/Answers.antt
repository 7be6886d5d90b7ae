use Rattle.std.proofs.Common.{◌<◌, get_or, subst, sym, ap, ◌∙◌, length, arith}
use Rattle.std.proofs.lemmas.List.{get_or_default}
use Rattle.tx_grid.specs.Standing.{cells_at}
use Rattle.tx_grid.specs.Taken.{IsFirstOpen, FitsOpen, span_number}
use Rattle.tx_grid.proofs.Steps.{number_within, known_before, board_kept, none_before_first, first_low, end_of_first}
use Rattle.tx_grid.proofs.placing.place_next.Goals as goal

pub take-requires-clause-rows : goal.take-requires-clause-rows
take-requires-clause-rows c =
    omega (
      arith,
      end_of_first c.args.columns c.args.rows c.deref.result.now c.args.span c.in-Some.cells c.in-Some.ensures,
      ap length c.deref.ensures.value,
      c.requires.taken,
      c.requires.span.rows.most,
    )

pub returns-in-None-clause-stands : goal.returns-in-None-clause-stands
returns-in-None-clause-stands c = λ r k f.
    c.in-None.ensures r k (subst (λ t. FitsOpen c.args.columns c.args.rows t (cells_at c.args.span r k)) (sym c.deref.ensures.value) f)

pub first_open-requires-clause-known : goal.first_open-requires-clause-known
first_open-requires-clause-known c = λ r k l f.
    known_before c.args.columns c.args.rows c.args.taken.now.items c.args.known.now.items c.args.span c.requires.board c.requires.span c.requires.width r k
    (subst (λ n. r < n)
    (c.index-from.ensures ∙ ap (λ n. get_or c.args.known.now.items n c.index-from.result.now) c.number_of.ensures
    ∙ get_or_default c.args.known.now.items (span_number c.args.span.columns c.args.span.rows) c.index-from.result.now 0
    (number_within c.args.columns c.args.rows c.args.taken.now.items c.args.known.now.items c.args.span c.requires.board c.requires.span c.requires.width))
    l)
    (subst (λ t. FitsOpen c.args.columns c.args.rows t (cells_at c.args.span r k)) c.deref.ensures.value f)

pub raise-requires-clause-row : goal.raise-requires-clause-row
raise-requires-clause-row c =
    first_low c.args.columns c.args.rows c.args.taken.now.items c.args.span c.in-Some.cells
    (subst (λ t. IsFirstOpen c.args.columns c.args.rows t c.args.span c.in-Some.cells) c.deref.ensures.value c.in-Some.ensures) c.requires.taken

pub returns-in_ok-take-in-Some-clause-board : goal.returns-in_ok-take-in-Some-clause-board
returns-in_ok-take-in-Some-clause-board c =
    c.raise.ensures.board c.args.rows c.take.new.taken.items
    (board_kept c.args.columns c.args.rows c.args.taken.now.items c.take.new.taken.items c.args.known.now.items c.in-Some.cells c.in_ok-take-in-Some.ensures.adds c.requires.board)
    (none_before_first c.args.columns c.args.rows c.args.taken.now.items c.take.new.taken.items c.args.span c.in-Some.cells
    (subst (λ t. IsFirstOpen c.args.columns c.args.rows t c.args.span c.in-Some.cells) c.deref.ensures.value c.in-Some.ensures) c.in_ok-take-in-Some.ensures.adds)

pub returns-in_ok-take-in-Some-clause-length : goal.returns-in_ok-take-in-Some-clause-length
returns-in_ok-take-in-Some-clause-length c =
    omega (
      arith,
      end_of_first c.args.columns c.args.rows c.deref.result.now c.args.span c.in-Some.cells c.in-Some.ensures,
      ap length c.deref.ensures.value,
      c.requires.span.rows.most,
      c.in_ok-take-in-Some.ensures.length,
    )

pub returns-in-None-clause-board : goal.returns-in-None-clause-board
returns-in-None-clause-board c =
    c.raise-in-None.ensures.board c.args.rows c.args.taken.now.items c.requires.board
    (λ r k l f. c.in-None.ensures r k (subst (λ t. FitsOpen c.args.columns c.args.rows t (cells_at c.args.span r k)) (sym c.deref.ensures.value) f))
