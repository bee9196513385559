-- The worked example of a buffer that is full, statement by statement.
use Rattle.std.specs.Prelude.{refl, [], ◌∷◌}
use Rattle.plain_machine.specs.Examples.{full}
use Rattle.plain_machine.specs.Saying.{IsSaid, one_actor}

pub full_said : IsSaid one_actor (10 ∷ []) full
full_said = (
  _,
  (
    _,
    (_, _, refl, refl, refl, (_, refl, (refl, refl))),
    (
      _,
      (_, _, refl, refl, refl, (_, _, refl, refl, (_, _, (refl, refl), (refl, refl)))),
      (
        _,
        (_, _, refl, refl, refl, (_, _, refl, refl, (_, _, (refl, refl), (refl, refl)))),
        (
          _,
          (_, _, refl, refl, refl, (_, _, refl, refl, (_, _, (refl, refl), (refl, refl)))),
          (
            _,
            (_, _, refl, refl, refl, (_, _, refl, refl, (_, _, (refl, refl), (refl, refl)))),
            (
              _,
              (_, _, refl, refl, refl, (_, _, refl, refl, (_, _, (refl, refl), (refl, refl)))),
              (
                _,
                (_, _, refl, refl, refl, (_, _, refl, refl, (_, _, (refl, refl), (refl, refl)))),
                (
                  _,
                  (_, _, refl, refl, refl, (_, _, refl, refl, (_, _, (refl, refl), (refl, refl)))),
                  (
                    _,
                    (_, _, refl, refl, refl, (_, _, refl, refl, (_, _, (refl, refl), (refl, refl)))),
                    (
                      _,
                      (_, _, refl, refl, refl, (_, _, refl, refl, (_, _, (refl, refl), (refl, refl)))),
                      (
                        _,
                        (_, _, refl, refl, refl, (_, _, refl, refl, (_, _, (refl, refl), (refl, refl)))),
                        (
                          _,
                          (_, _, refl, refl, refl, (_, _, refl, refl, (_, _, (refl, refl), (refl, refl)))),
                          (
                            _,
                            (_, _, refl, refl, refl, (_, _, refl, refl, (_, _, (refl, refl), (refl, refl)))),
                            (
                              _,
                              (_, _, refl, refl, refl, (_, _, refl, refl, (_, _, (refl, refl), (refl, refl)))),
                              (
                                _,
                                (_, _, refl, refl, refl, (_, _, refl, refl, (_, _, (refl, refl), (refl, refl)))),
                                (
                                  _,
                                  (_, _, refl, refl, refl, (_, _, refl, refl, (_, _, (refl, refl), (refl, refl)))),
                                  (
                                    _,
                                    (_, _, refl, refl, refl, (_, _, refl, refl, (_, _, (refl, refl), (refl, refl)))),
                                    (
                                      _,
                                      (_, _, refl, refl, refl, (_, _, refl, refl, (_, _, (refl, refl), (refl, refl)))),
                                      (
                                        _,
                                        (_, _, refl, refl, refl, (_, _, refl, refl, (_, _, (refl, refl), (refl, refl)))),
                                        (
                                          _,
                                          (_, _, refl, refl, refl, (_, _, refl, refl, (_, _, (refl, refl), (refl, refl)))),
                                          (
                                            _,
                                            (_, _, refl, refl, refl, (_, _, refl, refl, (_, _, (refl, refl), (refl, refl)))),
                                            (
                                              _,
                                              (_, _, refl, refl, refl, (_, _, refl, refl, (_, _, (refl, refl), (refl, refl)))),
                                              (
                                                _,
                                                (_, _, refl, refl, refl, (_, _, refl, refl, (_, _, (refl, refl), (refl, refl)))),
                                                (
                                                  _,
                                                  (_, _, refl, refl, refl, (_, _, refl, refl, (_, _, (refl, refl), (refl, refl)))),
                                                  (
                                                    _,
                                                    (_, _, refl, refl, refl, (_, _, refl, refl, (_, _, (refl, refl), (refl, refl)))),
                                                    (
                                                      _,
                                                      (_, _, refl, refl, refl, (_, _, refl, refl, (_, _, (refl, refl), (refl, refl)))),
                                                      (
                                                        _,
                                                        (_, _, refl, refl, refl, (_, _, refl, refl, (_, _, (refl, refl), (refl, refl)))),
                                                        (
                                                          _,
                                                          (_, _, refl, refl, refl, (_, _, refl, refl, (_, _, (refl, refl), (refl, refl)))),
                                                          (
                                                            _,
                                                            (_, _, refl, refl, refl, (_, _, refl, refl, (_, _, (refl, refl), (refl, refl)))),
                                                            (
                                                              _,
                                                              (_, _, refl, refl, refl, (_, _, refl, refl, (_, _, (refl, refl), (refl, refl)))),
                                                              (
                                                                _,
                                                                (_, _, refl, refl, refl, (_, _, refl, refl, (_, _, (refl, refl), (refl, refl)))),
                                                                (
                                                                  _,
                                                                  (_, _, refl, refl, refl, (_, _, refl, refl, (_, _, (refl, refl), (refl, refl)))),
                                                                  (
                                                                    _,
                                                                    (_, _, refl, refl, refl, (_, _, refl, refl, (_, _, (refl, refl), (refl, refl)))),
                                                                    (
                                                                      _,
                                                                      (_, _, refl, refl, refl, (_, _, refl, refl, (_, _, (refl, refl), (refl, refl)))),
                                                                      (
                                                                        _,
                                                                        (_, _, refl, refl, refl, (_, _, refl, refl, (_, _, (refl, refl), (refl, refl)))),
                                                                        (
                                                                          _,
                                                                          (_, _, refl, refl, refl, (_, _, refl, refl, (_, _, (refl, refl), (refl, refl)))),
                                                                          (
                                                                            _,
                                                                            (_, _, refl, refl, refl, (_, _, refl, refl, (_, _, (refl, refl), (refl, refl)))),
                                                                            (
                                                                              _,
                                                                              (_, _, refl, refl, refl, (_, _, refl, refl, (_, _, (refl, refl), (refl, refl)))),
                                                                              (
                                                                                _,
                                                                                (_, _, refl, refl, refl, (_, _, refl, refl, (_, _, (refl, refl), (refl, refl)))),
                                                                                (
                                                                                  _,
                                                                                  (_, _, refl, refl, refl, (_, _, refl, refl, (_, _, (refl, refl), (refl, refl)))),
                                                                                  (
                                                                                    _,
                                                                                    (_, _, refl, refl, refl, (_, _, refl, refl, (_, _, (refl, refl), (refl, refl)))),
                                                                                    (
                                                                                      _,
                                                                                      (_, _, refl, refl, refl, (_, _, refl, refl, (_, _, (refl, refl), (refl, refl)))),
                                                                                      (
                                                                                        _,
                                                                                        (_, _, refl, refl, refl, (_, _, refl, refl, (_, _, (refl, refl), (refl, refl)))),
                                                                                        (
                                                                                          _,
                                                                                          (_, _, refl, refl, refl, (_, _, refl, refl, (_, _, (refl, refl), (refl, refl)))),
                                                                                          (
                                                                                            _,
                                                                                            (_, _, refl, refl, refl, (_, _, refl, refl, (_, _, (refl, refl), (refl, refl)))),
                                                                                            (
                                                                                              _,
                                                                                              (_, _, refl, refl, refl, (_, _, refl, refl, (_, _, (refl, refl), (refl, refl)))),
                                                                                              (
                                                                                                _,
                                                                                                (_, _, refl, refl, refl, (_, _, refl, refl, (_, _, (refl, refl), (refl, refl)))),
                                                                                                (
                                                                                                  _,
                                                                                                  (_, _, refl, refl, refl, (_, _, refl, refl, (_, _, (refl, refl), (refl, refl)))),
                                                                                                  (
                                                                                                    _,
                                                                                                    (_, _, refl, refl, refl, (_, _, refl, refl, (_, _, (refl, refl), (refl, refl)))),
                                                                                                    (
                                                                                                      _,
                                                                                                      (_, _, refl, refl, refl, (_, _, refl, refl, (_, _, (refl, refl), (refl, refl)))),
                                                                                                      (
                                                                                                        _,
                                                                                                        (_, _, refl, refl, refl, (_, _, refl, refl, (_, _, (refl, refl), (refl, refl)))),
                                                                                                        (
                                                                                                          _,
                                                                                                          (_, _, refl, refl, refl, (_, _, refl, refl, (_, _, (refl, refl), (refl, refl)))),
                                                                                                          (
                                                                                                            _,
                                                                                                            (_, _, refl, refl, refl, (_, _, refl, refl, (_, _, (refl, refl), (refl, refl)))),
                                                                                                            (
                                                                                                              _,
                                                                                                              (_, _, refl, refl, refl, (_, _, refl, refl, (_, _, (refl, refl), (refl, refl)))),
                                                                                                              (
                                                                                                                _,
                                                                                                                (_, _, refl, refl, refl, (_, _, refl, refl, (_, _, (refl, refl), (refl, refl)))),
                                                                                                                (
                                                                                                                  _,
                                                                                                                  (_, _, refl, refl, refl, (_, _, refl, refl, (_, _, (refl, refl), (refl, refl)))),
                                                                                                                  (
                                                                                                                    _,
                                                                                                                    (_, _, refl, refl, refl, (_, _, refl, refl, (_, _, (refl, refl), (refl, refl)))),
                                                                                                                    (
                                                                                                                      _,
                                                                                                                      (_, _, refl, refl, refl, (_, _, refl, refl, (_, _, (refl, refl), (refl, refl)))),
                                                                                                                      (
                                                                                                                        _,
                                                                                                                        (_, _, refl, refl, refl, (_, _, refl, refl, (_, _, (refl, refl), (refl, refl)))),
                                                                                                                        (
                                                                                                                          _,
                                                                                                                          (_, _, refl, refl, refl, (_, _, refl, refl, (_, _, (refl, refl), (refl, refl)))),
                                                                                                                          (
                                                                                                                            _,
                                                                                                                            (_, _, refl, refl, refl, (_, _, refl, refl, (_, _, (refl, refl), (refl, refl)))),
                                                                                                                            (
                                                                                                                              _,
                                                                                                                              (_, _, refl, refl, refl, (_, _, refl, refl, (_, _, (refl, refl), (refl, refl)))),
                                                                                                                              (
                                                                                                                                _,
                                                                                                                                (_, _, refl, refl, refl, (_, _, refl, refl, (_, _, (refl, refl), (refl, refl)))),
                                                                                                                                (
                                                                                                                                  _,
                                                                                                                                  (_, _, refl, refl, refl, (_, _, refl, refl, (_, _, (refl, refl), (refl, refl)))),
                                                                                                                                  (
                                                                                                                                    _,
                                                                                                                                    (_, _, refl, refl, refl, (_, _, refl, refl, (_, _, (refl, refl), (refl, refl)))),
                                                                                                                                    (
                                                                                                                                      _,
                                                                                                                                      (_, _, refl, refl, refl, (_, _, refl, refl, (_, _, (refl, refl), (refl, refl)))),
                                                                                                                                      (
                                                                                                                                        _,
                                                                                                                                        (_, _, refl, refl, refl, (_, refl, (refl, refl))),
                                                                                                                                        refl,
                                                                                                                                      ),
                                                                                                                                    ),
                                                                                                                                  ),
                                                                                                                                ),
                                                                                                                              ),
                                                                                                                            ),
                                                                                                                          ),
                                                                                                                        ),
                                                                                                                      ),
                                                                                                                    ),
                                                                                                                  ),
                                                                                                                ),
                                                                                                              ),
                                                                                                            ),
                                                                                                          ),
                                                                                                        ),
                                                                                                      ),
                                                                                                    ),
                                                                                                  ),
                                                                                                ),
                                                                                              ),
                                                                                            ),
                                                                                          ),
                                                                                        ),
                                                                                      ),
                                                                                    ),
                                                                                  ),
                                                                                ),
                                                                              ),
                                                                            ),
                                                                          ),
                                                                        ),
                                                                      ),
                                                                    ),
                                                                  ),
                                                                ),
                                                              ),
                                                            ),
                                                          ),
                                                        ),
                                                      ),
                                                    ),
                                                  ),
                                                ),
                                              ),
                                            ),
                                          ),
                                        ),
                                      ),
                                    ),
                                  ),
                                ),
                              ),
                            ),
                          ),
                        ),
                      ),
                    ),
                  ),
                ),
              ),
            ),
          ),
        ),
      ),
    ),
  ),
)
