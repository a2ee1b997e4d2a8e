use Rattle.dg_top.proofs.StageLemmas.{accepted_passes, accepted_session, accepted_links}
use Rattle.dg_top.proofs.preparing.prepare.Goals as goal

pub classes_of-requires-clause-passes : goal.classes_of-requires-clause-passes
classes_of-requires-clause-passes c = accepted_passes c.args.d.now c.requires.accepted

pub plan_in-requires-clause-passes : goal.plan_in-requires-clause-passes
plan_in-requires-clause-passes c = accepted_passes c.args.d.now c.requires.accepted

pub session_in-requires-clause-passes : goal.session_in-requires-clause-passes
session_in-requires-clause-passes c = accepted_passes c.args.d.now c.requires.accepted

pub session_in-requires-clause-session : goal.session_in-requires-clause-session
session_in-requires-clause-session c = accepted_session c.args.d.now c.requires.accepted

pub links_in-requires-clause-passes : goal.links_in-requires-clause-passes
links_in-requires-clause-passes c = accepted_passes c.args.d.now c.requires.accepted

pub links_in-requires-clause-session : goal.links_in-requires-clause-session
links_in-requires-clause-session c = accepted_session c.args.d.now c.requires.accepted

pub links_in-requires-clause-links : goal.links_in-requires-clause-links
links_in-requires-clause-links c = accepted_links c.args.d.now c.requires.accepted
