use Rattle.dg_resolve.specs.declared.members.Wanted.TheVariants as wanted
use Rattle.dg_resolve.proofs.MemberRows.{members_are}
use Rattle.dg_resolve.proofs.tables.tables.Goals as goal

pub returns : goal.returns
returns c =
    let doc = c.args.names.now in
    let installers = c.in_ok-installers.installers in
    let are = c.in_ok-installers.ensures.exact in
    let made = c.in_ok-members.members in
    let count = c.class_count.result in
    let same = c.class_count.ensures.exact in
    let bs = c.args.bindings.now in
    let all = c.requires.bindings in
    let holds = c.in_ok-members.ensures.exact in
    record {
      exact = record {
        chains = c.in_ok-chains.ensures.exact;
        explicit = c.in_ok-explicit.ensures.exact;
        contributions = members_are doc installers wanted.Contribution made.contributions count bs are same all holds.contributions;
        declarations = members_are doc installers wanted.Declaration made.declarations count bs are same all holds.declarations;
        optionals = members_are doc installers wanted.Optional made.optionals count bs are same all holds.optionals;
        openings = members_are doc installers wanted.Opening made.openings count bs are same all holds.openings;
      };
    }
