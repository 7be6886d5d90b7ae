use Rattle.std.proofs.Common.{refl}
use Rattle.tx_lex.specs.Lexemes.{lexeme}
use Rattle.tx_value.proofs.Shares.{share-map}
use Rattle.tx_value.proofs.declaration.value_at.Goals as goal

pub returns-in-Some : goal.returns-in-Some
returns-in-Some c = rw (share-map (lexeme c.args.text.now) c.args.what c.args.place c.args.parts.now, ← c.in-Some.ensures) c.value_of.ensures

pub returns-in-None : goal.returns-in-None
returns-in-None c = rw (share-map (lexeme c.args.text.now) c.args.what c.args.place c.args.parts.now, ← c.in-None.ensures) refl
