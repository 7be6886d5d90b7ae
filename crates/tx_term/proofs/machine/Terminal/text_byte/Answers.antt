use Rattle.std.proofs.Common.{◌≡◌, sym, ◌∙◌, ap, []}
use Rattle.tx_term.proofs.MachineLemmas.{with_bytes-known, with_bytes-unknown, text_byte-text}
use Rattle.tx_term.specs.Machine.{Machine, with_bytes, longer_by}
use Rattle.tx_term.proofs.machine.Terminal.text_byte.Goals as goal

pub returns-then-take : goal.returns-then-take
returns-then-take c =
    let machine = c.args.self.now in
    let byte = c.args.byte in
    let longer = c.longer_by-longer.ensures ∙ ap (λ (m : Machine). longer_by m.unfinished byte) c.self.view_is in
    rw (text_byte-text machine byte (sym c.is_control_byte.ensures ∙ c.if-is_control_byte.false), ← longer)
    (c.take.ensures.taken ∙ with_bytes-known _ machine _ c.if-take.ensures.known)

pub returns-then-take-2 : goal.returns-then-take-2
returns-then-take-2 c =
    let machine = c.args.self.now in
    let byte = c.args.byte in
    let longer = c.longer_by-longer.ensures ∙ ap (λ (m : Machine). longer_by m.unfinished byte) c.self.view_is in
    let stays : c.take.new.self ≡ machine = c.take.ensures.taken ∙ with_bytes-unknown _ machine _ c.if-take.ensures.known in
    rw (text_byte-text machine byte (sym c.is_control_byte.ensures ∙ c.if-is_control_byte.false), ← longer, with_bytes-unknown _ machine _ c.if-take.ensures.known, ← c.one.ensures)
    (c.take-2.ensures.taken ∙ with_bytes-known _ _ (record machine { unfinished = [] }) c.if-take-2.ensures.known ∙ ap (λ m. with_bytes c.one.result.items m (record machine { unfinished = [] })) stays)

pub returns : goal.returns
returns c =
    let machine = c.args.self.now in
    let byte = c.args.byte in
    let longer = c.longer_by-longer.ensures ∙ ap (λ (m : Machine). longer_by m.unfinished byte) c.self.view_is in
    let stays : c.take.new.self ≡ machine = c.take.ensures.taken ∙ with_bytes-unknown _ machine _ c.if-take.ensures.known in
    let still : c.take-2.new.self ≡ machine = c.take-2.ensures.taken ∙ with_bytes-unknown _ _ _ c.if-take-2.ensures.known ∙ stays in
    rw (text_byte-text machine byte (sym c.is_control_byte.ensures ∙ c.if-is_control_byte.false), ← longer, with_bytes-unknown _ machine _ c.if-take.ensures.known, ← c.one.ensures, with_bytes-unknown _ machine _ c.if-take-2.ensures.known, c.clear-2.ensures)
    (ap (λ (m : Machine). record m { unfinished = [] }) (c.self-2.view_is ∙ still))
