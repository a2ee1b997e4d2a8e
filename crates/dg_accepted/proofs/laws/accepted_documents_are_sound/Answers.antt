use Rattle.dg_accepted.proofs.SoundLemmas.{accepted_documents_are_sound}
use Rattle.dg_accepted.proofs.laws.accepted_documents_are_sound.Goals as goal

pub returns : goal.returns
returns c = record { exact = accepted_documents_are_sound }
