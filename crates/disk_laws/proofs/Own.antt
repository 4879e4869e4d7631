-- What is said of the disk of a running site, of its state alone: a turn that leaves its disk keeps it.
use Rattle.disk_laws.proofs.Names.{◌≡◌, ◌<◌, ◌≤◌, Bool, true, false, [], ◌∷◌, length, take, refl, sym, subst, ap, ◌∙◌, ◌⊎◌, inl, inr, arith, ℕ, Option, Some, None, AllByRecursion, Shown, mark_of, Deployment, SiteState, Joining, Streamed, site_term, LogState, Leadership, part, Prefix, take-grown, Firm, ContentOk, StreamDisk, DiskOk, own_content}
use Rattle.disk_laws.proofs.Handlers.{DiskAt, FirmRises, at-term, at-was-member, at-was-joiner}

-- Of a member, in whose partition these terms were led, and this was counted firm.
pub record OwnMember (led : ℕ → Option Leadership) (top : ℕ) (s : SiteState) : Type 0 where
  pub shows : s.contents ≡ own_content s ∷ []
  pub mark : s.mark ≤ site_term s
  pub leadership : Leadership
  pub is_led : led s.mark ≡ Some leadership
  pub begun : Prefix leadership.begun (take s.on_disk s.log)
  pub marked : s.mark ≡ site_term s → s.repaired ≡ true
  pub firm : s.firm ≤ top
  pub owes : (s.owes ≡ None) ⊎ ((s.owes ≡ Some (site_term s)) × (s.repaired ≡ true))

-- Of a joiner with this stream.
abbrev pub OwnStream : SiteState → Joining → Option Streamed → Type 0
OwnStream s j None = AllByRecursion (λ x. mark_of x ≤ s.earlier) s.contents
OwnStream s j (Some st) =
    (st.mark ≡ site_term s)
    × (j.is_based ≡ false → s.contents ≡ None ∷ [])
    × (j.is_based ≡ true → (s.contents ≡ own_content s ∷ []) × (s.mark ≡ st.mark) × (s.base ≡ st.stream_start) × (st.stream_start ≤ s.on_disk))

pub record Own (halted : Bool) (C : Shown → Type 0) (led : ℕ → Option Leadership) (top : ℕ) (s : SiteState) : Type 0 where
  pub some : (s.contents ≡ []) → ⊥
  pub contents : AllByRecursion C s.contents
  pub marks : halted ≡ false → AllByRecursion (λ x. mark_of x ≤ s.greatest) s.contents
  pub member : 0 < s.start → s.joining ≡ None → OwnMember led top s
  pub joiner : halted ≡ false → (j : Joining) → s.joining ≡ Some j → OwnStream s j j.stream

-- ---- the disk of a slot

module _ (S : LogState) (F : Firm) (halted : Bool) (c : ℕ) where
  abbrev pub OwnAt : SiteState → Type 0
  OwnAt s = Own halted (ContentOk S F halted (part S c)) (S.logs.leadership (part S c)) (F (part S c)) s

  stream-own : (j : Joining) (o : Option Streamed) → StreamDisk S c j o → OwnStream (S.sites c) j o
  stream-own j None k = k
  stream-own j (Some st) k = k

  own-stream : (j : Joining) (o : Option Streamed) → OwnStream (S.sites c) j o → StreamDisk S c j o
  own-stream j None k = k
  own-stream j (Some st) k = k

  -- What is said of it is said of its site, and the other way round.
  pub disk-own : DiskOk S F halted c → OwnAt (S.sites c)
  disk-own k = record {
    some = k.some;
    contents = k.contents;
    marks = k.marks;
    member = λ up none. let m = k.member up none in search m.led;
    joiner = λ e j is. stream-own j j.stream (k.joiner e j is);
  }

  pub own-disk : (s : SiteState) → S.sites c ≡ s → OwnAt s → DiskOk S F halted c
  own-disk s e o = let k : OwnAt (S.sites c) = subst OwnAt (sym e) o in record {
    some = k.some;
    contents = k.contents;
    marks = k.marks;
    member = λ up none. let m = k.member up none in search m.is_led;
    joiner = λ e j is. own-stream j j.stream (k.joiner e j is);
  }

-- It stays so with a history that has grown, and with more that was counted firm.
pub own-on : (halted : Bool) (C B : Shown → Type 0) (led later : ℕ → Option Leadership) (top more : ℕ) (s : SiteState)
    → (AllByRecursion C s.contents → AllByRecursion B s.contents)
    → ((t : ℕ) (g : Leadership) → led t ≡ Some g → (h : Leadership) × (later t ≡ Some h) × (h.begun ≡ g.begun) × Prefix g.log h.log)
    → top ≤ more → Own halted C led top s → Own halted B later more s
own-on halted C B led later top more s contents kept up k = record {
  some = k.some;
  contents = contents k.contents;
  marks = k.marks;
  member = λ run none. let m = k.member run none in let r = kept s.mark m.leadership m.is_led in record {
    shows = m.shows;
    mark = m.mark;
    leadership = r.0;
    is_led = r.1;
    begun = rw (r.2) m.begun;
    marked = m.marked;
    firm = let a = m.firm in omega (arith, a, up);
    owes = m.owes;
  };
  joiner = k.joiner;
}

-- ---- a turn that leaves the disk

module _ (D : Deployment) (i : ℕ) (s u : SiteState) (h : DiskAt D i s u) (whole : s.on_disk ≤ length s.log) where
  taken-same : take u.on_disk u.log ≡ take s.on_disk s.log
  taken-same = ap (λ n. take n u.log) h.on_disk ∙ take-grown s.on_disk s.log u.log h.log whole

  -- the site knows the same content
  pub own-same : own_content u ≡ own_content s
  own-same = rw (h.mark, h.base, taken-same) refl

  member-handler : (led : ℕ → Option Leadership) (top : ℕ) → (FirmRises D i s u → u.firm ≤ top) → OwnMember led top s → OwnMember led top u
  member-handler led top rises k = record {
    shows = h.contents ∙ k.shows ∙ ap (λ x. x ∷ []) (sym own-same);
    mark = let a = at-term D i s u h in omega (arith, k.mark, h.mark, a);
    leadership = k.leadership;
    is_led = ap led h.mark ∙ k.is_led;
    begun = subst (Prefix k.leadership.begun) (sym taken-same) k.begun;
    marked = λ e. h.repaired (k.marked (sym h.mark ∙ e ∙ at-term D i s u h));
    firm = elim h.firm [ inl e ↦ omega (arith, e, k.firm) | inr r ↦ rises r ];
    owes = elim h.owes [
      | inr x ↦ inr (x.0 ∙ ap Some (sym (at-term D i s u h)), x.1)
      | inl e ↦ elim k.owes [ inl none ↦ inl (e ∙ none) | inr x ↦ inr (e ∙ x.0 ∙ ap Some (sym (at-term D i s u h)), h.repaired x.1) ]
    ];
  }

  stream-handler : (j k : Joining) → k.is_based ≡ j.is_based → (o : Option Streamed) → OwnStream s j o → OwnStream u k o
  stream-handler j k based None q = subst (AllByRecursion (λ x. mark_of x ≤ u.earlier)) (sym h.contents) (subst (λ n. AllByRecursion (λ x. mark_of x ≤ n) s.contents) (sym h.earlier) q)
  stream-handler j k based (Some st) q = (
    q.0 ∙ sym (at-term D i s u h),
    λ e. h.contents ∙ q.1 (sym based ∙ e),
    λ e. let r = q.2 (sym based ∙ e) in
        (h.contents ∙ r.0 ∙ ap (λ x. x ∷ []) (sym own-same), h.mark ∙ r.1, h.base ∙ r.2, (let a = r.3 in omega (arith, a, h.on_disk))),
  )

-- What is said of the site stays so, whose log is as long as it is on disk.
pub own-handler : (D : Deployment) (i : ℕ) (s u : SiteState) → DiskAt D i s u → (halted : Bool) (C : Shown → Type 0) (led : ℕ → Option Leadership) (top : ℕ)
    → s.on_disk ≤ length s.log → (FirmRises D i s u → u.firm ≤ top) → Own halted C led top s → Own halted C led top u
own-handler D i s u h halted C led top whole rises k = record {
  some = λ e. k.some (sym h.contents ∙ e);
  contents = subst (AllByRecursion C) (sym h.contents) k.contents;
  marks = λ e. subst (AllByRecursion (λ x. mark_of x ≤ u.greatest)) (sym h.contents) (subst (λ n. AllByRecursion (λ x. mark_of x ≤ n) s.contents) (sym h.greatest) (k.marks e));
  member = λ up e. member-handler D i s u h whole led top rises (k.member (subst (λ n. 0 < n) h.start up) (at-was-member D i s u h e));
  joiner = λ e j is. let r = at-was-joiner D i s u h j is in
      stream-handler D i s u h whole r.0 j r.3 j.stream (subst (OwnStream s r.0) (sym r.2) (k.joiner e r.0 r.1));
}
