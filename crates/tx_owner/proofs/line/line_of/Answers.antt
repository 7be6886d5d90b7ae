use Rattle.std.proofs.Common.{◌≡◌, ◌∙◌, ap, sym, arith, replicate, length}
use Rattle.std.specs.Prelude.{None}
use Rattle.std.specs.Option.{option_or}
use Rattle.std.proofs.lemmas.List.{length-replicate, get_or-replicate}
use Rattle.tx_owner.specs.Lines.{held_at}
use Rattle.tx_owner.specs.Panes.{first_at}
use Rattle.tx_owner.proofs.Ranges.{from_places}
use Rattle.tx_owner.proofs.line.line_of.Goals as goal

pub returns : goal.returns
returns c =
    let opened : c.in_ok-line.line ≡ replicate c.args.width None = c.in_ok-line.ensures {u = tt} in
    let wide : length c.in_ok-line.line ≡ c.args.width = ap (λ l. length l) opened ∙ length-replicate c.args.width None in
    c.into_cells.ensures ∙ from_places None (λ x. first_at x c.args.y c.args.panes.now) c.args.width c.claim_all.new.self (c.claim_all.ensures.count ∙ wide)
    (λ x within. c.claim_all.ensures.cells x (omega (arith, wide))
    ∙ ap (λ o. option_or o (first_at x c.args.y c.args.panes.now)) (ap (λ l. held_at l x) opened ∙ get_or-replicate c.args.width x None None within))
