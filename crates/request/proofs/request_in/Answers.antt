-- `request::request_in` meets its contract. Assumes nothing.
use native.Mathlib.Omega.{arith}
use Rattle.refusals.specs.Refusals.{refused_as}
use Rattle.refusals.proofs.Found.{passed_on}
use Rattle.buffer.proofs.Laid.{laid_shape}
use Rattle.clock.proofs.Leaking.{laid_moved}
use Rattle.request.proofs.Requests.{request_refused, request_permits, request_blocked}
use Rattle.request.proofs.request_in.Goals as goal

pub returns-in_err-a-clause-says : goal.returns-in_err-a-clause-says
returns-in_err-a-clause-says c =
    let x = c.args in
    let why = c.in_err-a.field-0.0 in
    rw (passed_on c.from_residual.result why c.from_residual.ensures.1) (request_refused x.s.now c.requires x.t x.q (refused_as why) c.in_err-a.ensures.value c.in_err-a.ensures.refused)

pub send-requires : goal.send-requires
send-requires c = laid_shape (laid_moved c.args.s.now c.requires c.args.t c.advance.ensures)

pub returns-in-0-clause-says : goal.returns-in-0-clause-says
returns-in-0-clause-says c =
    let x = c.args in
    let e = c.in_ok-a.ensures in
    request_permits x.s.now c.requires x.t x.q c.in_ok-a.a e.value e.refused c.in-0.is c.advance.ensures c.send.ensures

pub returns-in_default-clause-says : goal.returns-in_default-clause-says
returns-in_default-clause-says c =
    let x = c.args in
    let e = c.in_ok-a.ensures in
    request_blocked x.s.now c.requires x.t x.q c.in_ok-a.a e.value e.refused (λ z. grind (arith, z)) c.advance.ensures c.tally.ensures
