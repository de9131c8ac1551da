use Rattle.std.proofs.Common.{rules, subst}
use Rattle.bw_args.specs.Addresses.{IsAddress}
use Rattle.bw_args.proofs.AddressLemmas.{is_printed, no_port, not_local}
use Rattle.bw_args.proofs.addresses.address.Goals as goal

pub returns-then-port-eq0-clause-spelled : goal.returns-then-port-eq0-clause-spelled
returns-then-port-eq0-clause-spelled c = no_port c.args.network c.args.text.now c.in-Ok.address
    c.in-Ok.ensures.value (search rules)

pub returns-then-not-is_local-clause-spelled : goal.returns-then-not-is_local-clause-spelled
returns-then-not-is_local-clause-spelled c = not_local c.args.network c.is_local.result c.args.text.now c.in-Ok.address
    c.in-Ok.ensures.value (search rules) (search rules) (search rules)

pub returns-clause-printed : goal.returns-clause-printed
returns-clause-printed c far = is_printed c.args.text.now c.in-Ok.address (subst
    (λ n. IsAddress n c.args.text.now c.in-Ok.address) far
    (record { spelled = c.in-Ok.ensures.value; port = search rules; near = search rules }))
