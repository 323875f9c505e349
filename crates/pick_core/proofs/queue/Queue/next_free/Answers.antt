use Rattle.pick_core.proofs.Seen.{is_seen, has_way, searched, kept_searched, all_assigned, nearest, queue_searched, skipped_searched}
use Rattle.pick_core.proofs.queue.Queue.next_free.Goals as goal

pub first_free-var-requires : goal.first_free-var-requires
first_free-var-requires c =
    let s = is_seen c.self.inside.links.items c.self.inside.cursor c.self.inside.vars c.args.self.now c.self.invariant c.self.view_is in
    has_way c.self.inside.links.items c.self.inside.cursor c.self.inside.vars c.args.self.now s

pub invariant_of-self : goal.invariant_of-self
invariant_of-self c =
    let s = is_seen c.self.inside.links.items c.self.inside.cursor c.self.inside.vars c.args.self.now c.self.invariant c.self.view_is in
    let r = searched c.args.trail.now.entries c.self.inside.links.items c.self.inside.cursor c.self.inside.vars c.args.self.now c.first_free-var.result s c.requires c.first_free-var.ensures in
    kept_searched c.args.trail.now.entries c.self.inside.links.items c.self.inside.vars c.args.self.now c.first_free-var.result r

pub invariant_of-self-2 : goal.invariant_of-self-2
invariant_of-self-2 c =
    let s = is_seen c.self.inside.links.items c.self.inside.cursor c.self.inside.vars c.args.self.now c.self.invariant c.self.view_is in
    let r = searched c.args.trail.now.entries c.self.inside.links.items c.self.inside.cursor c.self.inside.vars c.args.self.now c.first_free-var.result s c.requires c.first_free-var.ensures in
    kept_searched c.args.trail.now.entries c.self.inside.links.items c.self.inside.vars c.args.self.now c.first_free-var.result r

pub returns-then-var-eq0-clause-none : goal.returns-then-var-eq0-clause-none
returns-then-var-eq0-clause-none c =
    let s = is_seen c.self.inside.links.items c.self.inside.cursor c.self.inside.vars c.args.self.now c.self.invariant c.self.view_is in
    let r = searched c.args.trail.now.entries c.self.inside.links.items c.self.inside.cursor c.self.inside.vars c.args.self.now c.first_free-var.result s c.requires c.first_free-var.ensures in
    all_assigned c.args.trail.now.entries c.self.inside.links.items c.self.inside.vars c.args.self.now c.first_free-var.result r c.if-var-eq0.true

pub returns-then-var-eq0-clause-queue : goal.returns-then-var-eq0-clause-queue
returns-then-var-eq0-clause-queue c =
    let s = is_seen c.self.inside.links.items c.self.inside.cursor c.self.inside.vars c.args.self.now c.self.invariant c.self.view_is in
    let r = searched c.args.trail.now.entries c.self.inside.links.items c.self.inside.cursor c.self.inside.vars c.args.self.now c.first_free-var.result s c.requires c.first_free-var.ensures in
    queue_searched c.args.trail.now.entries c.self.inside.links.items c.self.inside.vars c.args.self.now c.first_free-var.result r s.vars_is

pub returns-clause-queue : goal.returns-clause-queue
returns-clause-queue c =
    let s = is_seen c.self.inside.links.items c.self.inside.cursor c.self.inside.vars c.args.self.now c.self.invariant c.self.view_is in
    let r = searched c.args.trail.now.entries c.self.inside.links.items c.self.inside.cursor c.self.inside.vars c.args.self.now c.first_free-var.result s c.requires c.first_free-var.ensures in
    queue_searched c.args.trail.now.entries c.self.inside.links.items c.self.inside.vars c.args.self.now c.first_free-var.result r s.vars_is

pub returns-then-var-eq0-clause-skipped : goal.returns-then-var-eq0-clause-skipped
returns-then-var-eq0-clause-skipped c =
    let s = is_seen c.self.inside.links.items c.self.inside.cursor c.self.inside.vars c.args.self.now c.self.invariant c.self.view_is in
    let r = searched c.args.trail.now.entries c.self.inside.links.items c.self.inside.cursor c.self.inside.vars c.args.self.now c.first_free-var.result s c.requires c.first_free-var.ensures in
    skipped_searched c.args.trail.now.entries c.self.inside.links.items c.self.inside.vars c.args.self.now c.first_free-var.result r

pub returns-clause-skipped : goal.returns-clause-skipped
returns-clause-skipped c =
    let s = is_seen c.self.inside.links.items c.self.inside.cursor c.self.inside.vars c.args.self.now c.self.invariant c.self.view_is in
    let r = searched c.args.trail.now.entries c.self.inside.links.items c.self.inside.cursor c.self.inside.vars c.args.self.now c.first_free-var.result s c.requires c.first_free-var.ensures in
    skipped_searched c.args.trail.now.entries c.self.inside.links.items c.self.inside.vars c.args.self.now c.first_free-var.result r

pub returns-clause-some : goal.returns-clause-some
returns-clause-some c =
    let s = is_seen c.self.inside.links.items c.self.inside.cursor c.self.inside.vars c.args.self.now c.self.invariant c.self.view_is in
    let r = searched c.args.trail.now.entries c.self.inside.links.items c.self.inside.cursor c.self.inside.vars c.args.self.now c.first_free-var.result s c.requires c.first_free-var.ensures in
    nearest c.args.trail.now.entries c.self.inside.links.items c.self.inside.vars c.args.self.now c.first_free-var.result r c.if-var-eq0.false
