use Rattle.std.proofs.Common.{rules, ◌≡◌, ◌≤◌, length, take, drop, ap, sym, ◌∙◌}
use Rattle.tx_io.proofs.Reading.{moved-front}
use Rattle.tx_io.proofs.memory_source.MemorySource.give.Goals as goal

pub returns-clause-places : goal.returns-clause-places
returns-clause-places c =
    let source = c.self.inside in
    let left = drop source.given source.bytes.items in
    let fits : c.min-count.result ≤ length left = search rules in
    let moved : c.copy_from_slice.new.self ≡ take c.min-count.result left = search rules in
    ap (λ s. s.left) (sym c.self.view_is) ∙ moved-front source.bytes.items c.copy_from_slice.new.self c.args.into.now source.given c.min-count.result fits moved
