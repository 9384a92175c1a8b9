-- `lines::open_line` meets its contract. Assumes nothing.
use mathlib.Core.Path.{◌≡◌, sym, ap, ◌∙◌}
use lib.ListN.{drop}
use Rattle.lines.specs.Trace.{open_line}
use Rattle.lines.specs.Held.{ending_by}
use Rattle.lines.proofs.Doing.{with_time, with_imsi, done_wrong, done_open, open_no_time, open_time, open_no_imsi, open_imsi, open_no_intervals, open_intervals}
use Rattle.lines.proofs.open_line.Goals as goal

pub returns-in_err-time : goal.returns-in_err-time
returns-in_err-time c =
    let l = c.args.line.now in
    let f = c.field in
    rw c.from_residual.ensures (done_wrong (open_no_time l f.result f.ensures.0 c.in_err-time.was))

pub returns-in_err-imsi : goal.returns-in_err-imsi
returns-in_err-imsi c =
    let l = c.args.line.now in
    let f = c.field in
    let t = c.in_ok-time in
    let o : open_line (drop 1 l) ≡ with_time t.time.value (drop t.time.next l) = open_time l f.result f.ensures.0 t.time t.was in
    let g = c.field-2 in
    rw c.from_residual-in_err-imsi.ensures (done_wrong (open_no_imsi l t.time.value t.time.next g.result g.ensures.0 o c.in_err-imsi.was))

pub returns-in_err-read : goal.returns-in_err-read
returns-in_err-read c =
    let l = c.args.line.now in
    let f = c.field in
    let t = c.in_ok-time in
    let o : open_line (drop 1 l) ≡ with_time t.time.value (drop t.time.next l) = open_time l f.result f.ensures.0 t.time t.was in
    let g = c.field-2 in
    let i = c.in_ok-imsi in
    let u : open_line (drop 1 l) ≡ with_imsi t.time.value i.imsi.value (drop i.imsi.next l) = open_imsi l t.time.value t.time.next g.result g.ensures.0 o i.imsi i.was in
    let x = c.fields in
    rw c.from_residual-in_err-read.ensures (done_wrong (open_no_intervals l t.time.value i.imsi.value i.imsi.next x.new.out x.result x.ensures.0 u c.in_err-read.was))

pub returns-in_err-tail : goal.returns-in_err-tail
returns-in_err-tail c =
    let l = c.args.line.now in
    let f = c.field in
    let t = c.in_ok-time in
    let o : open_line (drop 1 l) ≡ with_time t.time.value (drop t.time.next l) = open_time l f.result f.ensures.0 t.time t.was in
    let g = c.field-2 in
    let i = c.in_ok-imsi in
    let u : open_line (drop 1 l) ≡ with_imsi t.time.value i.imsi.value (drop i.imsi.next l) = open_imsi l t.time.value t.time.next g.result g.ensures.0 o i.imsi i.was in
    let x = c.fields in
    let s = c.in_ok-read in
    rw c.from_residual-in_err-tail.ensures
    (done_wrong (open_intervals l t.time.value i.imsi.value i.imsi.next x.new.out x.result x.ensures.0 u s.read s.was (sym (ap ending_by c.in_err-tail.was) ∙ c.ending.ensures)))

pub returns : goal.returns
returns c =
    let l = c.args.line.now in
    let f = c.field in
    let t = c.in_ok-time in
    let o : open_line (drop 1 l) ≡ with_time t.time.value (drop t.time.next l) = open_time l f.result f.ensures.0 t.time t.was in
    let g = c.field-2 in
    let i = c.in_ok-imsi in
    let u : open_line (drop 1 l) ≡ with_imsi t.time.value i.imsi.value (drop i.imsi.next l) = open_imsi l t.time.value t.time.next g.result g.ensures.0 o i.imsi i.was in
    let x = c.fields in
    let s = c.in_ok-read in
    done_open (open_intervals l t.time.value i.imsi.value i.imsi.next x.new.out x.result x.ensures.0 u s.read s.was (sym (ap ending_by c.in_ok-tail.was) ∙ c.ending.ensures)) c.«open».ensures
