-- An entry's pages with an id above those stored, put after a sound log, leave it sound, keep every entry and add one. Assumes nothing.
use Prim.Native.Nat.{ℕ, ◌+◌, ◌-◌, ◌^◌, ◌≤◌, ◌<◌}
use mathlib.Core.Path.{◌≡◌, refl, sym, ◌∙◌}
use mathlib.Core.Logic.{◌⊎◌, inl, inr, ⊎_elim}
use mathlib.Core.List.{List, ◌++◌}
use native.Mathlib.Omega.{arith}
use lib.ListN.{length, length-append}
use Rattle.page.specs.Size.{id_size, data_end, pages_for_data, page_count}
use Rattle.page.specs.Mark.{mark_at}
use Rattle.page.specs.Entry.{length_at, id_at, after_at}
use Rattle.page.specs.Write.{entry_pages}
use Rattle.page.proofs.Counting.{pages_some}
use Rattle.page.proofs.Growing.{mark_kept, length_kept, id_kept, data_kept, whole_added, count_added, mark_added, later_mark_added, payload_added, id_added, data_added}
use Rattle.demands.specs.Sound.{Start, Sound}
use Rattle.demands.specs.Push.{Holds}
use Rattle.refusal.proofs.Cases.{side, order}

-- ---- any bytes put after a log

module _ (log x : List ℕ) where
  pub start_kept : (p : ℕ) → Start log p → Start (log ++ x) p
  start_kept p h = record { inside = omega (arith, h.inside, length-append log x); marked = mark_kept log x p h.inside ∙ h.marked }

  pub start_back : (p : ℕ) → p < page_count log → Start (log ++ x) p → Start log p
  start_back p l h = record { inside = l; marked = sym (mark_kept log x p l) ∙ h.marked }

  -- an entry of a sound log stays as it is
  unfoldable pub holds_kept : (id : ℕ) (d : List ℕ) → Sound log → Holds log id d → Holds (log ++ x) id d
  holds_kept id d s h =
      let i = h.start.inside in
      let w : h.page + pages_for_data (length d) ≤ page_count log = rw h.size at (s.within h.page h.start) in
      record {
        page = h.page;
        start = start_kept h.page h.start;
        has = id_kept log x h.page i ∙ h.has;
        size = length_kept log x h.page i ∙ h.size;
        same = data_kept log x h.page (length d) w ∙ h.same;
      }

  -- and one whose pages lie in the log was there before
  pub holds_back : (id : ℕ) (d : List ℕ) (h : Holds (log ++ x) id d) → h.page + pages_for_data (length d) ≤ page_count log → Holds log id d
  holds_back id d h w =
      let i : h.page < page_count log = omega (arith, pages_some (id_size + length d)) in
      record {
        page = h.page;
        start = start_back h.page i h.start;
        has = sym (id_kept log x h.page i) ∙ h.has;
        size = sym (length_kept log x h.page i) ∙ h.size;
        same = sym (data_kept log x h.page (length d) w) ∙ h.same;
      }

-- ---- an entry's pages

module _ (log : List ℕ) (s : Sound log) (id : ℕ) (d : List ℕ)
    (one : 1 ≤ id) (word : id < 2 ^ 64) (short : length d < data_end) (above : (p : ℕ) → Start log p → id_at log p < id) where
  abbrev entry : List ℕ
  entry = entry_pages id d

  abbrev new : List ℕ
  new = log ++ entry

  abbrev end : ℕ
  end = page_count log

  count : page_count new ≡ end + pages_for_data (length d)
  count = count_added log id d s.pages

  mark_new : (p : ℕ) → p ≡ end → mark_at new p ≡ 1
  mark_new p e = rw e (mark_added log id d s.pages)

  length_new : (p : ℕ) → p ≡ end → length_at new p ≡ id_size + length d
  length_new p e = rw e (payload_added log id d s.pages short)

  id_new : (p : ℕ) → p ≡ end → id_at new p ≡ id
  id_new p e = rw e (id_added log id d s.pages word)

  start_new : Start new end
  start_new = record { inside = omega (arith, count, pages_some (id_size + length d)); marked = mark_new end refl }

  later_new : (p : ℕ) → p < page_count new → end < p → mark_at new p ≡ 0
  later_new p h l =
      let e : end + (p - end) ≡ p = omega arith in
      rw e at (later_mark_added log id d s.pages (p - end) (omega arith) (omega (arith, count)))

  -- a start is an old one, or the new entry's
  cases : (p : ℕ) → Start new p → Start log p ⊎ (p ≡ end)
  cases p h = ⊎_elim
      (λ e. inr e)
      (⊎_elim (λ l. inl (start_back log entry p l h)) (λ l. absurd (omega (arith, later_new p h.inside l, h.marked))))
      (order p end)

  old_length : (p : ℕ) → Start log p → length_at new p ≡ length_at log p
  old_length p h = length_kept log entry p h.inside

  old_id : (p : ℕ) → Start log p → id_at new p ≡ id_at log p
  old_id p h = id_kept log entry p h.inside

  within : (p : ℕ) → Start new p → after_at new p ≤ page_count new
  within p h = ⊎_elim
      (λ o. rw (old_length p o) (omega (arith, s.within p o, count)))
      (λ e. rw (length_new p e) (omega (arith, count)))
      (cases p h)

  apart : (p q : ℕ) → Start new p → Start new q → p < q → after_at new p ≤ q
  apart p q hp hq l = ⊎_elim
      (λ o. rw (old_length p o) (⊎_elim (λ o'. s.apart p q o o' l) (λ e. omega (arith, s.within p o)) (cases q hq)))
      (λ e. absurd (⊎_elim (λ o'. omega (arith, o'.inside)) (λ e'. omega arith) (cases q hq)))
      (cases p hp)

  rising : (p q : ℕ) → Start new p → Start new q → p < q → id_at new p < id_at new q
  rising p q hp hq l = ⊎_elim
      (λ o. ⊎_elim
      (λ o'. omega (arith, old_id p o, old_id q o', s.rising p q o o' l))
      (λ e. omega (arith, old_id p o, id_new q e, above p o))
      (cases q hq))
      (λ e. absurd (⊎_elim (λ o'. omega (arith, o'.inside)) (λ e'. omega arith) (cases q hq)))
      (cases p hp)

  pub sound_append : Sound new
  sound_append = record {
    pages = whole_added log id d s.pages;
    marks = λ p h. ⊎_elim
        (λ e. inr (mark_new p e))
        (⊎_elim
        (λ l. ⊎_elim (λ z. inl (mark_kept log entry p l ∙ z)) (λ z. inr (mark_kept log entry p l ∙ z)) (s.marks p l))
        (λ l. inl (later_new p h l)))
        (order p end);
    first = λ h. ⊎_elim
        (λ l. mark_kept log entry 0 l ∙ s.first l)
        (λ l. mark_new 0 (omega arith))
        (side 0 end);
    long = λ p h. ⊎_elim (λ o. rw (old_length p o) (s.long p o)) (λ e. omega (arith, length_new p e)) (cases p h);
    apart = apart;
    within = within;
    rising = rising;
    from_one = λ p h. ⊎_elim (λ o. rw (old_id p o) (s.from_one p o)) (λ e. omega (arith, id_new p e)) (cases p h);
  }

  -- no id is above its own
  pub most_append : (p : ℕ) → Start new p → id_at new p ≤ id
  most_append p h = ⊎_elim (λ o. omega (arith, old_id p o, above p o)) (λ e. omega (arith, id_new p e)) (cases p h)

  pub holds_append : Holds new id d
  holds_append = record {
    page = end;
    start = start_new;
    has = id_new end refl;
    size = length_new end refl;
    same = data_added log id d s.pages;
  }
