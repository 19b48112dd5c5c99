-- What the machine and the names say of a session's exports, from its parts: its script, its stop and its exports.
use Rattle.std.proofs.Common.{◌≡◌, [], Result, sym, ap, subst, ◌∙◌}
use Rattle.tl_ports.specs.declared.fault.PutFault.{PutFault}
use Rattle.tl_ports.specs.Seen.{SinkSeen, VaultSeen}
use Rattle.render_core.specs.Calls.{own}
use Rattle.edit_desk.specs.Desk.{FixedOf, DeskOf, IsDesk, heard}
use Rattle.script_lang.specs.ScriptSound.{AreDistinct}
use Rattle.play_head.specs.Carrying.{CarriesAll, carrier}
use Rattle.play_head.specs.Playing.{Player}
use Rattle.play_head.proofs.Desks.{number-hears}
use Rattle.timeline_app.specs.Course.{Course, IsCrew, Program, Session, all_carried, script_calls}
use Rattle.timeline_app.proofs.Courses.{calls_all, calls_before, end_hears, joined_hears}
use Rattle.timeline_app.proofs.Files.{leaves_all}
use Rattle.timeline_app.proofs.Kept.{script_none}
use Rattle.timeline_app.proofs.Manned.{IsManned, has_exports}
use Rattle.timeline_app.proofs.Named.{files_of, names_differ}
use Rattle.timeline_app.proofs.Whole.{Closed, Exported, Scripted}

module _ {M K F : Type 0} (p : Program M F) (old : Session M K) (played : Player M K) (desk : DeskOf M K) (c : Course F) (one : Result Unit PutFault) where
  -- A session from an empty journal, its script, its end, and what the crew did. The exporter had ended when main took the exports that
  -- were left.
  pub record IsEnded : Type 0 where
    pub number : old.player.desk.fixed.number ≡ 0
    pub fresh : old.player.desk.seen ≡ []
    pub script : Scripted p.setting old.player played p.body c one
    pub closed : Closed p.setting played desk c.late
    pub known : IsDesk p.setting.library desk
    pub crew : IsCrew p.setting.library desk p.others c.early
    pub over : own 1 closed.finishes.hears.more ≡ []

  pub manned_by : IsEnded → IsManned p.setting.library desk p.others c
  manned_by e =
      let s = p.setting in
      let started = old.player.desk in
      let script = e.script in
      let closed = e.closed in
      let number : played.desk.fixed.number ≡ 0 = number-hears s.library started played.desk (script_calls c) script.part.hears ∙ e.number in
      let stop = joined_hears s played.desk closed.stopped closed.joined number closed.stops closed.joins in
      let ends = end_hears s played.desk closed.joined desk c.late number stop closed.finishes in
      record {
        known = e.known;
        number = ap (λ (f : FixedOf M K). f.number) ends.fixed ∙ number;
        front = closed.joined.seen;
        rest = closed.finishes.hears.more;
        seen = closed.finishes.hears.seen;
        before = ap (λ (f : FixedOf M K). heard s.library (record { fixed = f; seen = closed.joined.seen })) closed.finishes.hears.fixed
            ∙ calls_before s started played.desk closed.joined c e.fresh script.part.hears stop;
        over = e.over;
        calls = calls_all s started played.desk desk c e.fresh script.part.hears ends;
        crew = e.crew;
        script = script_none s played.desk (heard s.library started) c script.part.whole script.part.begun;
        done = closed.finishes.done;
      }

  pub exported_by : (vault : VaultSeen) (out : SinkSeen) → IsEnded → AreDistinct (files_of p.body) → CarriesAll (carrier p.setting.library desk p.setting.rate p.vault_tells) old.vault vault (all_carried c)
      → Exported p old (record { player = record played { desk = desk; out = out }; vault = vault }) (all_carried c)
  exported_by vault out e distinct carries =
      let s = p.setting in
      let has = has_exports s.library desk p.others c (manned_by e) in
      let differ = names_differ s played.desk (heard s.library old.player.desk) p.body c distinct e.script.part.lines e.script.part.whole e.script.part.begun in
      record {
        files = leaves_all (carrier s.library desk s.rate p.vault_tells) old.vault vault (all_carried c) (subst AreDistinct (sym has.names) differ) carries;
        exports = has.exports;
        numbers = has.numbers;
      }
