use Rattle.std.proofs.Common.{◌∙◌}
use Rattle.clap.specs.Matches.{found_of}
use Rattle.tx_app.proofs.CommandLemmas.{first_value_is}
use Rattle.tx_app.proofs.words.value_in.Goals as goal

pub returns : goal.returns
returns c = c.get_str.ensures ∙ first_value_is (found_of c.args.given.now) c.args.name.now
