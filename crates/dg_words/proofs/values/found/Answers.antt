use Rattle.std.proofs.Common.{◌≡◌, ◌∙◌, map, string_bytes, sym, ap}
use Rattle.std.proofs.lemmas.Bool.{false≢true}
use Rattle.clap.specs.Words.{App, takes}
use Rattle.clap.specs.declared.error.kind.ErrorKind.TheVariants as kind
use Rattle.dg_words.proofs.values.found.Goals as goal

pub prove-unreachable-requires : goal.prove-unreachable-requires
prove-unreachable-requires c =
    let lacked = c.in-Err.ensures.passes (ap (λ (a : App). takes a (map string_bytes c.args.words.now)) c.in_ok-run_command.ensures.exact ∙ c.requires) in
    let same : c.kind.result ≡ kind.OutOfMemory = c.kind.ensures ∙ lacked in
    false≢true (sym c.if-prove.true ∙ rw same at c.eq.ensures)
