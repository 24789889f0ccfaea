-- Each turn writes the output of one more file.
use Rattle.std.proofs.Common.{◌∙◌, ◌+◌, Ok, [], true, ap, cond, inr, refl, string_bytes, sym, take}
use Rattle.std.proofs.lemmas.Map.Text.{hash_set_updates_text}
use Rattle.std.specs.List.{list_any}
use Rattle.std.specs.Str.{bytes_eq}
use Rattle.subst_cli.proofs.RunLemmas.{no_success, one_more, one_written, taken_next, written_run}
use Rattle.subst_cli.proofs.WrittenLemmas.{no_calls}
use Rattle.subst_cli.specs.Status.{status_of}
use Rattle.subst_cli.specs.Written.{is_taken, none_written}
use Rattle.subst_cli.proofs.per_file.Run.write_each.Goals as goal

pub loop-template-init : goal.loop-template-init
loop-template-init g c = record {
  written = λ entries are. (_, [], none_written, no_calls _, inr refl);
  taken = λ path. ap (λ keys. list_any (λ k. bytes_eq path (string_bytes k)) keys) c.new-taken.ensures.empty;
}

pub returns-in_err-target : goal.returns-in_err-target
returns-in_err-target g c = record {
  written = λ entries are.
      let l = c.loop-template in
      let run = c.args.self.now in
      written_run run.expander.formats run.expander.placeholders.now entries (status_of c.args.report.now.worst)
      (g.F.Files.history c.args.files.now) c.args.directory.now c.args.templates.now l.template-index
      (g.F.Files.history l.files) l.report.worst c.from_residual.result (l.invariant.written entries are)
      (no_success c.from_residual.result _ c.from_residual.ensures.0);
}

pub returns-in_err-insert : goal.returns-in_err-insert
returns-in_err-insert g c = record {
  written = λ entries are.
      let l = c.loop-template in
      let run = c.args.self.now in
      let all = c.args.templates.now in
      let template = c.template-item.result in
      let rule = run.expander.formats in
      let placeholders = run.expander.placeholders.now in
      let start = status_of c.args.report.now.worst in
      let first = g.F.Files.history c.args.files.now in
      let mid = g.F.Files.history l.files in
      let last = g.F.Files.history c.write_once.new.files in
      let worst = c.write_once.new.report.worst in
      let target = string_bytes c.in_ok-target.target in
      written_run rule placeholders entries start first c.args.directory.now all (l.template-index + 1) last worst
      c.from_residual-in_err-insert.result
      (one_written rule placeholders entries start first c.args.directory.now (take l.template-index all) _
      template _ target mid last l.report.worst worst
      (one_more all l.template-index template c.loop-template-test.true c.template-item.is) c.in_ok-target.ensures
      (l.invariant.taken target) (l.invariant.written entries are)
      (rw (c.deref.ensures, c.deref-in-loop-template.ensures) at (c.write_once.ensures entries are)))
      (no_success c.from_residual-in_err-insert.result _ c.from_residual-in_err-insert.ensures.0);
}

pub loop-template-preserved : goal.loop-template-preserved
loop-template-preserved g c =
    let l = c.loop-template in
    let run = c.args.self.now in
    let all = c.args.templates.now in
    let template = c.template-item.result in
    let more = one_more all l.template-index template c.loop-template-test.true c.template-item.is in
    record {
      written = λ entries are.
          one_written run.expander.formats run.expander.placeholders.now entries
          (status_of c.args.report.now.worst) (g.F.Files.history c.args.files.now) c.args.directory.now
          (take l.template-index all) _ template _ (string_bytes c.in_ok-target.target)
          (g.F.Files.history l.files) (g.F.Files.history c.write_once.new.files) l.report.worst
          c.write_once.new.report.worst more c.in_ok-target.ensures (l.invariant.taken _)
          (l.invariant.written entries are)
          (rw (c.deref.ensures, c.deref-in-loop-template.ensures) at (c.write_once.ensures entries are));
      taken = λ path.
          hash_set_updates_text (string_bytes c.in_ok-target.target) l.taken c.insert.new.self true
          c.in_ok-insert.ensures.updates path
          ∙ ap (λ b. cond (bytes_eq (string_bytes c.in_ok-target.target) path) true b) (l.invariant.taken path)
          ∙ rw (sym c.in_ok-target.ensures) at
          (taken_next c.args.directory.now (take l.template-index all) template path)
          ∙ ap (λ templates. is_taken c.args.directory.now templates path) (sym more);
    }

pub returns : goal.returns
returns g c = record {
  written = λ entries are.
      let l = c.loop-template in
      let run = c.args.self.now in
      written_run run.expander.formats run.expander.placeholders.now entries (status_of c.args.report.now.worst)
      (g.F.Files.history c.args.files.now) c.args.directory.now c.args.templates.now l.template-index
      (g.F.Files.history l.files) l.report.worst (Ok tt) (l.invariant.written entries are)
      c.loop-template-test.false;
}
