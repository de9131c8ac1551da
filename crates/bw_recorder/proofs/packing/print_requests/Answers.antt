use Rattle.bw_recorder.proofs.packing.print_requests.Goals as goal

pub returns : goal.returns
returns g c =
    let p = c.put_requests-put.ensures in
    let f = c.finish.ensures p.0 c.args.out.now p.1 in (p.0, f.0, λ b s. f.3 _ (p.2 b s), f.1, f.2)
