use Rattle.std.proofs.Common.{sym, ◌∙◌, ap, arith}
use Rattle.std.proofs.lemmas.Bool.{false_from_ne_true}
use Rattle.tx_text.specs.Name.{is_name}
use Rattle.tx_tree.specs.Spelled.{no_repeats}
use Rattle.tx_tree_file.proofs.ClassLoop.{no_class, next_short, next_room, next_class, all_classes}
use Rattle.tx_tree_file.proofs.row_parts.classes_of.Goals as goal

pub returns-in_default-of_bytes : goal.returns-in_default-of_bytes
returns-in_default-of_bytes c =
    no_class c.loop-behind.classes.items c.args.bytes.now c.loop-behind.rest.now c.in-Some.behind.now c.loop-behind.invariant.room c.loop-behind.invariant.all (sym c.in-Some.ensures)
    (false_from_ne_true _ (λ named. c.in_default-of_bytes.ensures (ap is_name c.split_word.ensures.word ∙ named)))

pub loop-behind-smaller : goal.loop-behind-smaller
loop-behind-smaller c =
    let a = next_short c.loop-behind.rest.now c.in-Some.behind.now c.split_word.result.1.now (sym c.in-Some.ensures) c.split_word.ensures.rest in
    omega (arith, a)

pub loop-behind-preserved : goal.loop-behind-preserved
loop-behind-preserved c =
    let named = ap is_name (sym c.split_word.ensures.word) ∙ c.in-Some-of_bytes.ensures.0 in
    let name = c.in-Some-of_bytes.ensures.1 ∙ c.split_word.ensures.word in
    let more = c.in_ok-push.ensures.items in
    record {
      room = rw more (next_room _ c.loop-behind.classes.items c.in-Some-of_bytes.name c.loop-behind.rest.now c.in-Some.behind.now c.split_word.result.1.now c.loop-behind.invariant.room (sym c.in-Some.ensures) c.split_word.ensures.rest);
      all = rw more (next_class _ c.loop-behind.classes.items c.args.bytes.now c.loop-behind.rest.now c.in-Some.behind.now c.split_word.result.1.now c.in-Some-of_bytes.name c.loop-behind.invariant.room c.loop-behind.invariant.all (sym c.in-Some.ensures) named name c.split_word.ensures.rest);
    }

pub returns-then-not-branch : goal.returns-then-not-branch
returns-then-not-branch c =
    all_classes c.loop-behind.classes.items c.args.bytes.now c.loop-behind.rest.now _ c.loop-behind.invariant.all (sym c.in_default.ensures) (sym c.if-not-branch.true ∙ c.in_ok-no_repeats.ensures ∙ ap no_repeats c.deref.ensures.value)

pub returns : goal.returns
returns c =
    all_classes c.loop-behind.classes.items c.args.bytes.now c.loop-behind.rest.now _ c.loop-behind.invariant.all (sym c.in_default.ensures) (sym c.if-not-branch.false ∙ c.in_ok-no_repeats.ensures ∙ ap no_repeats c.deref.ensures.value)
