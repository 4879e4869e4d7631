-- The names that the proofs use of other crates, and of this one's `specs`.
pub use Rattle.std.proofs.Common.{Bool, List, [], ap, append-nil, append_assoc, arith, drop-drop, false, inl, inr, length-take, refl, subst, suc, sym, take, take-append-drop, take_all, true, true≢false, zero, ◌++◌, ◌<◌, ◌==◌, ◌∙◌, ◌∷◌, ◌≡◌, ◌≤◌, ◌⊎◌}
pub use Rattle.std.proofs.Math.Path.{fun_ext}
pub use Rattle.std.proofs.lemmas.Bool.{and_from, and_parts, cases_lt, cond_both, eq-eqb, eqb-false, eqb-true, false_from_ne_true, not-true, or_cases, or_left, or_right}
pub use Rattle.std.proofs.lemmas.Bool.Decides.{nat_tests}
pub use Rattle.std.proofs.lemmas.List.{drop-append-le, take-append-le}
pub use Rattle.std.proofs.lemmas.List.Prefix.{front_fits, front_rest}
pub use Rattle.std.specs.List.{AllByRecursion, list_all, list_any}
pub use Rattle.std.specs.Prelude.{None, Option, Some, drop, filter, find, if◌then◌else◌, is_none, is_some, length, map, max, min, nat_le, nat_lt, not, replicate, unwrap_or, ℕ, ◌&&◌, ◌+◌, ◌-◌, ◌||◌}
pub use Rattle.volt_base.specs.declared.entry.Entry.{Entry}
pub use Rattle.volt_base.specs.declared.entry.Entry.TheVariants.{Done, Frag, Sp}
pub use Rattle.volt_base.specs.declared.entry.Outcome.{Outcome}
pub use Rattle.volt_wire.specs.Stream.{StreamHead}
pub use Rattle.volt_wire.specs.Word.{Membership}
pub use Rattle.volt_wire.specs.declared.actor.Actor.{Actor}
pub use Rattle.volt_wire.specs.declared.actor.Actor.TheVariants.{Agent, Client, Director, Scanner, Site}
pub use Rattle.volt_wire.specs.declared.message.Msg.{Msg}
pub use Rattle.cluster_model.specs.AgentState.{stops_others}
pub use Rattle.cluster_model.specs.Director.{stops_all, stops_host}
pub use Rattle.cluster_model.specs.Disk.{Shown, after_failure, after_parts}
pub use Rattle.cluster_model.specs.Engine.{Database}
pub use Rattle.cluster_model.specs.Environment.{DiskFails, Environment, NoMemory}
pub use Rattle.cluster_model.specs.Replies.{end_of_reply}
pub use Rattle.cluster_model.specs.Laws.{RiseFrom, start_in_letter, starts_in}
pub use Rattle.cluster_model.specs.Letters.{Arrival, Blocks, Letter, Refused, Sends, Taken, Turn, Waiting, Waits, above_term, arrival, becomes, letter_in, letter_to, no_sends, of_term, only, open_letter, same, sending, ◌▸◌}
pub use Rattle.cluster_model.specs.Log.{answer_behind, is_snapshot, nothing_open, open_behind}
pub use Rattle.cluster_model.specs.Site.{acked_in, appends, appends_all, as_member, asks_to_join, at_least, begins_base, can_take, copy_acks, counts, ends_streams, finishes_load, firm_now, floor_now, from_agent, from_director, from_scanner, from_site, has_all_on_disk, holds, holds_for, in_new_term, initiator_in, is_first_term, is_lost_in, is_repaired, is_sent, lacks, leads_with, least, least_of, lesser, longest, looked, may_finish, may_stream, noted, of_order, on_ack, on_chunk, on_done, on_frag, on_join_ask, on_put, on_repair, on_report, on_scan_end, on_sp_call, on_start, on_stop, on_stream_end, on_stream_start, on_task, on_view, order_of, ordered, own_ack, passes_on, put_to, repair_to, repairs, reports_to, runs_call, runs_calls, sends_firm, settles, shows, site_handler, site_runs, site_takes, stream_ends_to, takes_asks, takes_each, takes_first_ask, takes_waiting, tasks_to, tells, tells_initiator, with_count, with_position, without_count, works_calls}
pub use Rattle.cluster_model.specs.SiteState.{Ask, AskedCall, Joiner, Joining, Reported, SiteState, Streamed, emptied, is_joiner, is_leader, leader_in, leads, new_joining, other_copies, site_term, start_in_view}
pub use Rattle.cluster_model.specs.declared.scanning.Scanning.TheVariants.{ForBase, ForJoiner}
pub use Rattle.cluster_model.specs.declared.scanning.Scanning.{Scanning}
pub use Rattle.cluster_model.specs.Sync.{acknowledges, after_sync, joiner_written, parts_of_message, parts_of_sync, says_loaded, site_turn, start_after, stops_so, sync_turn, syncs, written}
pub use Rattle.cluster_model.specs.Words.{Deployment, host_of_slot, is_host, is_in, is_member, is_slot_of, is_some_of, part_of_slot, term_of}
pub use Rattle.cluster_model.specs.World.{rest, sent, set_at, took}
pub use Rattle.cluster_steps.specs.Lists.{In, OnSome, Prefix}
