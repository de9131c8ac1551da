use Rattle.std.proofs.Common.{◌≡◌, ◌<◌, ◌∙◌, List, ℕ, Some, None, sym, ap, subst, arith, false, refl}
use Rattle.std.specs.HashMap.{spare}
use Rattle.std.specs.Str.{bytes_eq}
use Rattle.bw_file.specs.GrowingFiles.{Growing}
use Rattle.bw_session.specs.Tables.{session_in}
use Rattle.bw_session.proofs.ServerForms.{table_set, one_more, inserted}
use Rattle.bw_session.proofs.TableForms.{inserts_now}
use Rattle.bw_session.proofs.server.Server.insert.Goals as goal

pub invariant_of-self : goal.invariant_of-self
invariant_of-self g c =
    let table = c.args.self.now.table in
    let before = table.room in
    let place = c.requires.place in
    let room : 0 < spare c.args.self.now.sessions = omega (arith, before, place) in
    let ok = c.insert.ensures.succeeds room in
    let less = c.insert.ensures.spare in
    let s = c.in_ok-session.session in
    let from = c.in_ok-session.ensures in
    let fresh = subst (λ (n : List ℕ). session_in c.args.self.now.sessions n ≡ None) (sym c.copy-name.ensures)
    c.requires.fresh in
    let one = one_more c.insert.result ok _ _ _ c.insert.ensures.old fresh c.insert.ensures.len in
    record {
      table = table_set c.args.self.now.sessions c.insert.new.self c.args.self.now.limit c.copy-name.result s table
          (omega (arith, one, place)) (omega (arith, one, before, less))
          (inserted c.insert.result ok c.insert.ensures.updates).0
          (from.name ∙ sym c.copy-name.ensures) (ap (λ (g : Growing). g.limit) from.growing);
    }

pub returns-clause-inserted : goal.returns-clause-inserted
returns-clause-inserted g c =
    let table = c.args.self.now.table in
    let before = table.room in
    let place = c.requires.place in
    let room : 0 < spare c.args.self.now.sessions = omega (arith, before, place) in
    let ok = c.insert.ensures.succeeds room in
    let s = c.in_ok-session.session in
    let fresh = subst (λ (n : List ℕ). session_in c.args.self.now.sessions n ≡ None) (sym c.copy-name.ensures)
    c.requires.fresh in
    let here : session_in c.insert.new.self c.args.take.name ≡ Some s =
    subst (λ (n : List ℕ). session_in c.insert.new.self n ≡ Some s) c.copy-name.ensures c.in-Ok.ensures.updates.1 in
    inserts_now g.S.TakeStore g.J.Journal c.args.self.now _ c.args.take s
    (record {
      store = refl;
      limit = refl;
      others = λ m b. c.in-Ok.ensures.updates.2 m
          (subst (λ (x : List ℕ). bytes_eq x m ≡ false) (sym c.copy-name.ensures) b);
    })
    c.requires.fresh c.len-names.ensures.unique c.requires.place here c.in_ok-session.ensures refl
    (one_more c.insert.result ok _ _ _ c.insert.ensures.old fresh c.insert.ensures.len)
