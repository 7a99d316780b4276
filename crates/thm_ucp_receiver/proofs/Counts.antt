-- The counts after a history are the history's own modulo 2^32: each call adds to them what it adds to the history's.
-- Assumes nothing.
use mathlib.Core.Path.{◌≡◌, refl, sym, ◌∙◌, ap}
use mathlib.Core.Bool.{Bool, true, false, cond}
use mathlib.Core.List.{List, [], ◌∷◌, ◌++◌}
use Prim.Native.Nat.{ℕ, ◌+◌, ◌%◌, ◌^◌}
use native.Mathlib.Nat.{add-mod, add-zero, mod-add-mod}
use lib.Dec.{eqb, ltb}
use lib.ListN.{length, take, length-append}
use borrow.Author.Tests.{eqb-true, eqb-false}
use Rattle.ucp_frame.specs.Frame.{flag}
use Rattle.ucp_frame.specs.Stretch.{Ending, whole, escape_last, bad_escape, Unstuffed, unstuffed, Verdict, silent, refused, delivered, store_octets, verdict}
use Rattle.ucp_history.specs.History.{Call, Segment, cut_at_flags, open_stretch, if_delivered, if_refused, over_closed, Account, account}
use Rattle.ucp_receiver.specs.declared.Phase.TheVariants.{Hunting, TooLong}
use Rattle.ucp_receiver.specs.declared.Counts.{Counts}
use Rattle.ucp_receiver.specs.Account.{counted_flag, counted_open}
use Rattle.ucp_receiver.specs.Octet.{State, counted_octet, counts_after}
use Rattle.thm_ucp_receiver.specs.Promises.{account_counts}
use Rattle.thm_ucp_receiver.proofs.Reached.{holding, phase_at, reached}
use Rattle.thm_ucp_receiver.proofs.Cut.{segment, flags_flag, hunted_flag, flags_octet, hunted_octet, read_more_lem, hunted_more_lem, open_last, closed_same, closed_more}
use Rattle.thm_ucp_receiver.proofs.Record.{Stands, hunts, reads, stands_closed}

abbrev wrapped : ℕ → ℕ
wrapped n = n % 2 ^ 32

wrapped_more : (n : ℕ) → wrapped (wrapped n + 1) ≡ wrapped (n + 1)
wrapped_more n = mod-add-mod n (2 ^ 32) 1

-- ---- a flag with this answer

abbrev flagged : Verdict → Account → Account
flagged v a =
    record {
      flags = a.flags + 1;
      delivered = a.delivered + if_delivered v a.open_octets;
      refused = a.refused + if_refused v a.open_octets;
      skipped = a.skipped;
      open_octets = 0;
    }

flag_counted : (v : Verdict) (a : Account) → counted_flag v (account_counts a) ≡ account_counts (flagged v a)
flag_counted v a = go v
  where
    none : (n : ℕ) → wrapped n ≡ wrapped (n + 0)
    none n = ap wrapped (sym (add-zero n))

    all : (n : ℕ) → wrapped (wrapped n + wrapped a.open_octets) ≡ wrapped (n + a.open_octets)
    all n = sym (add-mod n a.open_octets (2 ^ 32))

    fields : {f d r g e q : ℕ} → f ≡ g → d ≡ e → r ≡ q
        → ◌≡◌ {A = Counts} (record { flags = f; delivered = d; refused = r; skipped = wrapped a.skipped; unclosed = 0 })
        (record { flags = g; delivered = e; refused = q; skipped = wrapped a.skipped; unclosed = 0 })
    fields f d r = λ i. record { flags = f i; delivered = d i; refused = r i; skipped = wrapped a.skipped; unclosed = 0 }

    go : (v : Verdict) → counted_flag v (account_counts a) ≡ account_counts (flagged v a)
    go silent = fields (wrapped_more a.flags) (none a.delivered) (none a.refused)
    go (refused number) = fields (wrapped_more a.flags) (none a.delivered) (all a.refused)
    go (delivered body) = fields (wrapped_more a.flags) (all a.delivered) (none a.refused)

module _ (h : List Call) (c : Call) where
  account_flag : c.octet ≡ flag → account (h ++ (c ∷ [])) ≡ flagged (verdict (open_stretch (cut_at_flags h).flags) c.room) (account h)
  account_flag e =
      λ i. record {
        flags = (ap length (flags_flag h c e) ∙ length-append (cut_at_flags h).flags (segment c.room [] ∷ [])) i;
        delivered = closed if_delivered refl i;
        refused = closed if_refused refl i;
        skipped = length (hunted_flag h c e i);
        open_octets = ap length (ap open_stretch (flags_flag h c e) ∙ open_last (cut_at_flags h).flags (segment c.room [])) i;
      }
    where
      closed : (f : Verdict → ℕ → ℕ) → f silent 0 ≡ 0
          → over_closed f (cut_at_flags (h ++ (c ∷ []))).flags
          ≡ over_closed f (cut_at_flags h).flags + f (verdict (open_stretch (cut_at_flags h).flags) c.room) (length (open_stretch (cut_at_flags h).flags))
      closed f z = ap (over_closed f) (flags_flag h c e) ∙ closed_more f z (cut_at_flags h).flags (segment c.room [])

  -- ---- an octet before the first flag, and one of a stretch

  account_hunted : (c.octet ≡ flag → ⊥) → (cut_at_flags h).flags ≡ []
      → counted_octet Hunting (account_counts (account h)) ≡ account_counts (account (h ++ (c ∷ [])))
  account_hunted n q =
      λ i. record {
        flags = wrapped (length (same i));
        delivered = wrapped (over_closed if_delivered (same i));
        refused = wrapped (over_closed if_refused (same i));
        skipped = (wrapped_more (length (cut_at_flags h).hunted) ∙ ap wrapped longer) i;
        unclosed = wrapped (length (open_stretch (same i)));
      }
    where
      same : (cut_at_flags h).flags ≡ (cut_at_flags (h ++ (c ∷ []))).flags
      same = q ∙ sym (flags_octet h c n q)

      longer : length (cut_at_flags h).hunted + 1 ≡ length (cut_at_flags (h ++ (c ∷ []))).hunted
      longer = sym (ap length (hunted_octet h c n q) ∙ length-append (cut_at_flags h).hunted (c.octet ∷ []))

  account_read : (c.octet ≡ flag → ⊥) → (done : List Segment) (room : ℕ) (raw : List ℕ)
      → (cut_at_flags h).flags ≡ done ++ (segment room raw ∷ [])
      → counted_open (account_counts (account h)) ≡ account_counts (account (h ++ (c ∷ [])))
  account_read n done room raw q =
      λ i. record {
        flags = wrapped (same_length i);
        delivered = wrapped (same if_delivered i);
        refused = wrapped (same if_refused i);
        skipped = wrapped (length (same_hunted i));
        unclosed = (wrapped_more (length (open_stretch (cut_at_flags h).flags)) ∙ ap wrapped longer) i;
      }
    where
      more : List ℕ
      more = raw ++ (c.octet ∷ [])

      after : (cut_at_flags (h ++ (c ∷ []))).flags ≡ done ++ (segment room more ∷ [])
      after = flags_octet h c n q ∙ read_more_lem done (segment room raw) c.octet

      same_length : length (cut_at_flags h).flags ≡ length (cut_at_flags (h ++ (c ∷ []))).flags
      same_length = simp (q, after, length-append)

      same_hunted : (cut_at_flags h).hunted ≡ (cut_at_flags (h ++ (c ∷ []))).hunted
      same_hunted = sym (hunted_octet h c n q ∙ hunted_more_lem done (segment room raw) (cut_at_flags h).hunted c.octet)

      same : (f : Verdict → ℕ → ℕ) → over_closed f (cut_at_flags h).flags ≡ over_closed f (cut_at_flags (h ++ (c ∷ []))).flags
      same f = ap (over_closed f) q ∙ closed_same f done room raw more ∙ ap (over_closed f) (sym after)

      longer : length (open_stretch (cut_at_flags h).flags) + 1 ≡ length (open_stretch (cut_at_flags (h ++ (c ∷ []))).flags)
      longer = simp (q, after, open_last, length-append)

reached_counted : (u : Unstuffed) (c : Counts) → counted_octet (reached u).rest.phase c ≡ counted_open c
unfolding reached
reached_counted u c = go (ltb store_octets (length u.octets)) u.ending
  where
    go : (t : Bool) (e : Ending)
        → counted_octet (cond t (holding TooLong (take store_octets u.octets)) (holding (phase_at e) u.octets)).rest.phase c
        ≡ counted_open c
    go true e = refl
    go false whole = refl
    go false escape_last = refl
    go false bad_escape = refl

pub stands_counts : (h : List Call) (s : State) (c : Call) → Stands h s
    → counts_after (account_counts (account h)) s c.octet c.room ≡ account_counts (account (h ++ (c ∷ [])))
unfolding counts_after
stands_counts h s c = go (eqb c.octet flag) refl
  where
    in_phase : {r : State} → s ≡ r
        → counted_octet s.rest.phase (account_counts (account h)) ≡ counted_octet r.rest.phase (account_counts (account h))
    in_phase p = ap (λ (r : State). counted_octet r.rest.phase (account_counts (account h))) p

    go : (t : Bool) → eqb c.octet flag ≡ t → Stands h s
        → counts_after (account_counts (account h)) s c.octet c.room ≡ account_counts (account (h ++ (c ∷ [])))
    go true e st =
        rw e (ap (λ (v : Verdict). counted_flag v (account_counts (account h))) (stands_closed h s c st)
        ∙ flag_counted (verdict (open_stretch (cut_at_flags h).flags) c.room) (account h)
        ∙ ap account_counts (sym (account_flag h c (eqb-true c.octet flag e))))
    go false e (hunts p q) = rw e (in_phase p ∙ account_hunted h c (eqb-false c.octet flag e) q)
    go false e (reads done room raw p q) =
        rw e (in_phase p ∙ reached_counted (unstuffed raw) (account_counts (account h))
        ∙ account_read h c (eqb-false c.octet flag e) done room raw q)
