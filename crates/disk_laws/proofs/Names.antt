-- The names that the proofs use of other crates, and of this one's `specs`.
pub use Rattle.std.proofs.Common.{Bool, List, [], ap, append-nil, append_assoc, arith, drop, false, inl, inr, length, length-take, refl, subst, suc, sym, take, take-append-drop, true, true≢false, zero, ◌++◌, ◌<◌, ◌==◌, ◌∙◌, ◌∷◌, ◌≡◌, ◌≤◌, ◌⊎◌}
pub use Rattle.std.proofs.lemmas.Bool.{and_from, and_parts, cases_Bool, cases_eq, cases_lt, cond_both, eq-eqb, eqb-true, false_from_ne_true, false≢true, or_cases, or_parts}
pub use Rattle.std.proofs.lemmas.Bool.Decides.{nat_tests}
pub use Rattle.std.proofs.lemmas.List.{length-take-le, map-append}
pub use Rattle.std.specs.List.{AllByRecursion, list_all, list_any, range_with_len}
pub use Rattle.std.specs.Prelude.{None, Option, Some, filter, if◌then◌else◌, is_none, is_some, map, max, nat_le, nat_lt, not, option_and_then, option_map, slice_get, slice_index, unwrap_or, ℕ, ◌&&◌, ◌+◌, ◌||◌}
pub use Rattle.partition_ring.specs.Placement.{slots_of_part}
pub use Rattle.volt_base.specs.declared.entry.Entry.{Entry}
pub use Rattle.volt_base.specs.declared.entry.Entry.TheVariants.{Done, Frag, Sp}
pub use Rattle.volt_base.specs.declared.entry.Outcome.{Outcome}
pub use Rattle.volt_base.specs.declared.entry.Outcome.TheVariants.{Dropped}
pub use Rattle.volt_wire.specs.Stream.{StreamHead}
pub use Rattle.volt_wire.specs.Word.{Membership}
pub use Rattle.volt_wire.specs.declared.actor.Actor.{Actor}
pub use Rattle.volt_wire.specs.declared.actor.Actor.TheVariants.{Agent, Client, Director, Scanner, Site}
pub use Rattle.volt_wire.specs.declared.event.Event.{Event}
pub use Rattle.volt_wire.specs.declared.message.Msg.{Msg}
pub use Rattle.cluster_model.proofs.Runs.{reached-kept, runs-kept}
pub use Rattle.cluster_model.specs.Agent.{agent_turn}
pub use Rattle.cluster_model.specs.AgentState.{AgentState, stops_others}
pub use Rattle.cluster_model.specs.Disk.{Content, Shown, after_failure, after_parts, best_of, better, chosen, closed, greatest_mark, greatest_open, is_better, mark_of, recovered, resolved, shown_of_part}
pub use Rattle.cluster_model.specs.Engine.{Database}
pub use Rattle.cluster_model.specs.Environment.{DiskFails, DisksShow, Environment, NoFault, NoMemory}
pub use Rattle.cluster_model.specs.Events.{allows, can, delivered, happens, is_actor, is_shown, is_slot_or_none, is_some_letter, is_stopped, may_do, may_recover, recovered_with, step}
pub use Rattle.cluster_model.specs.Laws.{starts_in}
pub use Rattle.cluster_model.specs.Letters.{Arrival, Blocks, Letter, Refused, Sends, Taken, Turn, Waiting, Waits, arrival, becomes, letter_in, only, open_letter, sending, ◌▸◌}
pub use Rattle.cluster_model.specs.Log.{open_in}
pub use Rattle.cluster_model.specs.Recover.{all_shown, count_shown, left_contents, new_base, new_content, new_log, shown_of, starts_anew, stays_stopped}
pub use Rattle.cluster_model.specs.Runs.{Happening, Reached, RunsTo, has_failed, may_happen}
pub use Rattle.cluster_model.specs.Site.{at_least, copy_acks, firm_now, floor_now, from_agent, from_site, holds, holds_for, in_new_term, initiator_in, least_of, may_stream, on_start, on_stop, on_stream_start, ordered, own_ack, settles, site_handler, site_runs, site_takes, stream_head, takes_first_ask}
pub use Rattle.cluster_model.specs.SiteState.{Ask, Joiner, Joining, Reported, SiteState, Streamed, is_joiner, leader_in, leads, member_site, new_joiner, new_joining, no_site, site_term, stopped_site}
pub use Rattle.cluster_model.specs.declared.scanning.Scanning.TheVariants.{ForBase, ForJoiner}
pub use Rattle.cluster_model.specs.declared.scanning.Scanning.{Scanning}
pub use Rattle.cluster_model.specs.Sync.{after_sync, base_after, base_of, batches, content, joiner_base, joiner_owes, joiner_parts, joiner_written, mark_owed, may_stream_in, may_sync, member_written, owed_batches, owes_in, parts_of_message, parts_of_sync, site_turn, split_at, start_after, stops_so, sync_turn, syncs, written}
pub use Rattle.cluster_model.specs.Words.{Deployment, admits, all_parts, host_of_slot, is_host, is_member, is_slot_of, is_some_of, part_of_slot, slots, start_of_slot, term_in, term_of}
pub use Rattle.cluster_model.specs.World.{AuthoritativeLog, Input, Stopped, World, authoritative_after, first_world, new_word, set_at, stamp_of, start_from, stops_with, took, with_site}
pub use Rattle.cluster_steps.proofs.Channels.{took-all}
pub use Rattle.cluster_steps.proofs.Frames.{AlikeJoiners, InertLetter, holds_for-cases, mapped-joiners, with_rest}
pub use Rattle.cluster_steps.proofs.Leaders.{a-joiner, leader-view, leads-parts}
pub use Rattle.cluster_steps.proofs.Least.{least_of-below}
pub use Rattle.cluster_steps.proofs.Lists.{all-append, all-at, all-filter, all-from, all-if, all-mono, all-one, eqb-same, if-false, if-true, in-cases, in-left, in-map, in-map-from, in-right, list_all-at, none-and-some, not-both, same-some, set-both, set-here, set-there, some-here}
pub use Rattle.cluster_steps.proofs.Prefixes.{prefix-append, prefix-length, prefix-none, prefix-refl, prefix-same, prefix-take, prefix-trans, prefixes-order, take-grown, take-of-prefix, take-prefix, take-short}
pub use Rattle.cluster_steps.proofs.Sends.{all-order}
pub use Rattle.cluster_steps.proofs.SiteTurns.{MayTakeAsks, Plain, PlainWaiting, as_entered, as_joiner, enters-walk, handler-known, joins-walk, settles-walk, site_runs-refused, site_runs-taken, site_runs-waits, stays_joiner, takes_asks-cases, turn-walk}
pub use Rattle.cluster_steps.proofs.SiteWalk.{after_sync-walk, handler-walk, works_calls-walk}
pub use Rattle.cluster_steps.proofs.Steps.{HandlerSteps, MayBeTold, SayingSteps, SmallSteps, with_acks, with_call, with_entry, with_stream}
pub use Rattle.cluster_steps.specs.Lists.{In, Prefix}
pub use Rattle.word_laws.proofs.Agreement.{at-good, initiator-named, member-is}
pub use Rattle.word_laws.proofs.Hearings.{agent-there}
pub use Rattle.word_laws.proofs.Members.{is_member-start, start-is_member}
pub use Rattle.word_laws.proofs.Steps.{unnamed-not}
pub use Rattle.word_laws.proofs.Worlds.{actor-host, host-apart, memory-runs}
pub use Rattle.word_laws.specs.Histories.{Admitted, History, Unnamed, names}
pub use Rattle.log_laws.proofs.Agents.AgentEvents.{AgentGoes, agent-event}
pub use Rattle.log_laws.proofs.Entries.Leads.{Leading, leading}
pub use Rattle.log_laws.proofs.Firmness.Firm.{answers-all, held-away}
pub use Rattle.log_laws.proofs.Kept.Grown.{onward-same}
pub use Rattle.log_laws.proofs.Kept.Moves.{Grown, NoStreamStart, Onward, after_site, site_popped}
pub use Rattle.log_laws.proofs.Kept.Plumbing.{here, sent-either, there}
pub use Rattle.log_laws.proofs.Kept.Terms.{some-term, took-decided, took-not-named, took-unnamed}
pub use Rattle.log_laws.proofs.Messages.Pops.{taken-for, waits-for}
pub use Rattle.log_laws.proofs.NewTerms.Entering.{ran-owner, running-ran, took-admitted}
pub use Rattle.log_laws.proofs.NewTerms.Taking.{first-word, later-word}
pub use Rattle.log_laws.proofs.Plain.Copies.{leads-or-follows, part-slots, range-in, slots-part}
pub use Rattle.log_laws.proofs.Plain.Lines.{none-or-some, one-and-others}
pub use Rattle.log_laws.proofs.Runs.Agreeing.{agrees-begun}
pub use Rattle.log_laws.proofs.Runs.Boots.{anew-logs, anew-logs-are, first-logs, first-logs-are, first_leadership, new_logs}
pub use Rattle.log_laws.proofs.Runs.Lasting.{keeps-firm}
pub use Rattle.log_laws.proofs.Runs.Laws.{copy-behind, copy-entered, last-before}
pub use Rattle.log_laws.proofs.Runs.Leading.{AuthoritativeRises, leads-runs}
pub use Rattle.log_laws.proofs.Runs.Others.{Keeps, next-logs, scan-logs, stopped-logs, submit-logs, to_client-logs, to_director-logs, to_scanner-logs}
pub use Rattle.log_laws.proofs.Runs.SiteEvents.{sync-after, turn-after}
pub use Rattle.log_laws.proofs.Runs.Worlds.{actor-slot, site-next, site-reaches}
pub use Rattle.log_laws.specs.Copies.{AuthoritativeOk, HasLogs, log_state}
pub use Rattle.log_laws.specs.Histories.{CountedOk, FollowsIn, HeldFor, HeldOk, InWord, IsSlot, JoinerOk, Leadership, LeadsIn, Line, LogState, Logs, LogsHold, MemberOk, RunViews, SiteLetterOk, SiteWaitingFrom, SiteWaitingOk, StreamIn, StreamedOk, Took, ViewIn, agent_to_site, between, line, log_at, part, site_start, term_at, views}
pub use Rattle.disk_laws.specs.Survival.{GoesOnWithFirm, MayShow, Survives, firm_entries}
pub use Rattle.disk_laws.specs.Disks.{AtLeast, ContentOk, DiskOk, DisksHold, Firm, FirmOk, Halted, MemberDisk, Rebuilt, Shows, StreamDisk, StreamLetter, StreamOk, Top, Written, own_content, shown_at}
